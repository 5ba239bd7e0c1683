-- A span between its neighbours: the tests on these two alone decide refusal 8 on all the holes of a sound heap. Assumes nothing.
use mathlib.Core.Path.{◌≡◌, ap}
use mathlib.Core.Bool.{true, false, not}
use mathlib.Core.List.{List, [], ◌∷◌, ◌++◌}
use Prim.Native.Nat.{ℕ, ◌+◌, ◌-◌, ◌^◌, ◌≤◌, ◌<◌}
use native.Mathlib.Omega.{arith}
use Rattle.std.proofs.lemmas.Bool.{and_parts, and_from, not-true, not-false, le-ltb, ne_eqb}
use Rattle.rules.specs.Fixed.{min_size, grain}
use Rattle.rules.specs.Tests.{any}
use Rattle.rules.specs.Kinds.{multiple_of}
use Rattle.rules.specs.Holes.{end}
use Rattle.rules.specs.Sound.{sound_holes}
use Rattle.rules.specs.Refusals.{refusal8}
use Rattle.rules.specs.declared.Hole.{Hole}
use Rattle.rules.specs.declared.Heap.{Heap}
use Rattle.rules.specs.Inner.{Fair, Rises, end_or}
use Rattle.std.specs.Cmp.{both_ways}
use Rattle.rules.proofs.Cases.{all_each, each_all, any_each, each_any}
use Rattle.rules.proofs.Walk.{sound_sum}
use Rattle.rules.proofs.Rises.{rises_le, rises_widen, rises_front, rises_back, sound_rises}
use Rattle.rules.proofs.Clear.{Clear, Follows, passed, ClearBefore, ClearBehind, clear_none, clear_room}
use Rattle.walk.specs.Walk.{start_of}
use Rattle.walk.specs.declared.Near.{Near}
use Rattle.walk.proofs.ToSpan.{Lies}
use Rattle.joining.specs.Span.{Free}
use Rattle.free.specs.SpanTests.{Around, inside_of, between_of, may_free}
use Rattle.free.proofs.Gaps.{gap_follows, follows_gap}
use Rattle.free.proofs.Aside.{clear_split, clear_before, clear_behind, before_end, behind_rises}
use Rattle.free.proofs.Told.{floor_least, next_high, clear_keeps, keeps_clear, clear_next, next_clear}

module _
    (h : Heap)
    (near : Near)
    (g : Hole)
    (ks : List Hole)
    (fair : Fair h)
    (sound : sound_holes h ks ≡ true)
    (lies : Lies h g.addr ks near)
  where
    rises : Rises h.bottom.0 h.top.0 (lies.front ++ lies.back)
    rises = rw lies.list at (sound_rises h fair ks sound)

    high : h.top.0 < 2 ^ 64 - 1
    high = omega arith

    front_rises : Rises h.bottom.0 h.top.0 lies.front
    front_rises =
        let b = h.bottom.0 in
        let e = end_or b lies.front in
        let r = rises_back b h.top.0 lies.front lies.back rises in
        rises_widen b b e h.top.0 lies.front (omega arith) (rises_le e h.top.0 lies.back r)
        (rises_front b h.top.0 lies.front lies.back rises)

    back_rises : Rises (end_or h.bottom.0 lies.front) h.top.0 lies.back
    back_rises = rises_back h.bottom.0 h.top.0 lies.front lies.back rises

    back_low : h.base.0 ≤ end_or h.bottom.0 lies.front
    back_low =
        let b = h.bottom.0 in
        let e = end_or b lies.front in
        omega (arith, rises_le b e lies.front (rises_front b h.top.0 lies.front lies.back rises))

    -- what the tests lean on
    pub around : Around h near
    around =
        record {
          floor = floor_least h near (start_of h) lies.front lies.prev lies.floor;
          next =
              next_high h near g (end_or h.bottom.0 lies.front) h.top.0 back_low high lies.back lies.at back_rises;
        }

    -- what they show
    record Passes (align : ℕ) : Type 0 where
      grained : multiple_of grain g.addr ≡ true
      aligned : multiple_of align g.addr ≡ true
      low : Follows g.addr.0 h.bottom.0
      inside : Follows h.top.0 (end g).0
      before : ClearBefore g lies.front
      behind : ClearBehind g lies.back

    passes : (align : ℕ) → may_free h near g align ≡ true → Passes align
    unfolding may_free inside_of between_of
    passes align e =
        let t = all_each
        (multiple_of grain g.addr ∷ multiple_of align g.addr ∷ inside_of h g ∷ between_of h near g ∷ []) e in
        let i = and_parts _ _ t.1.1.0 in
        let b = and_parts _ _ t.1.1.1.0 in
        record {
          grained = t.0;
          aligned = t.1.0;
          low = gap_follows h.bottom g.addr i.0;
          inside = gap_follows (end g) h.top i.1;
          before =
              keeps_clear h near g h.bottom.0 h.top.0 fair.bottom high (start_of h) lies.front lies.prev lies.floor
              front_rises b.0;
          behind =
              next_clear h near g (end_or h.bottom.0 lies.front) h.top.0 back_low high lies.back lies.at back_rises b.1;
        }

    clears : {align : ℕ} → Passes align → Clear g ks
    clears p =
        rw lies.list
        (clear_none h.bottom.0 h.top.0 g lies.front lies.back rises p.before p.behind)

    module _ (least : min_size ≤ g.size) (align : ℕ) where
      freed_none : may_free h near g align ≡ true → any (refusal8 h ks g align) ≡ false
      freed_none e =
          let p = passes align e in
          let c = clears p in
          each_any (refusal8 h ks g align) (
            ap not p.grained,
            (
              ap not p.aligned,
              (
                le-ltb g.addr.0 h.bottom.0 p.low.0,
                (
                  le-ltb h.top.0 (end g).0 p.inside.0,
                  (
                    c.0,
                    (
                      c.1,
                      (
                        ne_eqb (h.bottom.0 + grain) g.addr.0 p.low.1,
                        (ne_eqb ((end g).0 + grain) h.top.0 p.inside.1, tt),
                      ),
                    ),
                  ),
                ),
              ),
            ),
          )

      none_freed : any (refusal8 h ks g align) ≡ false → may_free h near g align ≡ true
      unfolding may_free inside_of between_of
      none_freed e =
          let q = any_each (refusal8 h ks g align) e in
          let p = passed h ks g align e in
          let c = clear_split g lies.front lies.back (rw lies.list at p.clear) in
          let d = clear_before g lies.front least lies.before c.0 in
          let b = clear_behind (end_or h.bottom.0 lies.front) h.top.0 g lies.back back_rises lies.beyond c.1 in
          let within = and_from _ _ (follows_gap h.bottom g.addr p.low) (follows_gap (end g) h.top p.high) in
          let between =
          and_from _ _
          (clear_keeps h near g h.bottom.0 h.top.0 fair.bottom high (start_of h) lies.front lies.prev lies.floor d)
          (clear_next h near g (end_or h.bottom.0 lies.front) h.top.0 back_low high lies.back lies.at back_rises b) in
          each_all (multiple_of grain g.addr ∷ multiple_of align g.addr ∷ inside_of h g ∷ between_of h near g ∷ [])
          (not-false _ q.0, (not-false _ q.1.0, (within, (between, tt))))

      -- the tests decide refusal 8
      pub may_free_lem : may_free h near g align ≡ not (any (refusal8 h ks g align))
      may_free_lem =
          both_ways _ _
          (λ e. ap not (freed_none e))
          (λ e. none_freed (not-true (any (refusal8 h ks g align)) e))

      -- a span that passes them lies free between its neighbours
      pub free_span : may_free h near g align ≡ true → Free h ks near.cursor g
      free_span e =
          let p = passes align e in
          record {
            front = lies.front;
            back = lies.back;
            list = lies.list;
            prev = lies.prev;
            next = lies.at;
            before = before_end h.bottom.0 g lies.front p.low.0 p.before;
            least = least;
            behind =
                behind_rises (end_or h.bottom.0 lies.front) h.top.0 (h.base.0 + h.len) g lies.back back_rises
                (omega arith) (omega arith) p.behind;
          }

      -- and was held, so that used falls by it
      pub used_enough : may_free h near g align ≡ true → g.size ≤ h.used
      used_enough e =
          let p = passes align e in
          let s = sound_sum h fair ks sound in
          let r = clear_room h.bottom.0 h.top.0 g ks (sound_rises h fair ks sound) p.low.0 p.inside.0 (clears p).0 in
          omega arith
