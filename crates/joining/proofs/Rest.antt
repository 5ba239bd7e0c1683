-- The rest of a resized block's stretch, linked among the holes: its head is to be written, and the link to it, and these stand for the
-- list that a resize leaves. Assumes nothing.
use mathlib.Core.Path.{◌≡◌, sym, ap, ◌∙◌}
use mathlib.Core.List.{List, ◌++◌}
use Prim.Native.Nat.{ℕ, ◌+◌, ◌≤◌}
use native.Mathlib.Omega.{arith}
use Rattle.rules.specs.Fixed.{min_size, addr_limit}
use Rattle.rules.specs.Kinds.{plus, none}
use Rattle.rules.specs.Holes.{first_of}
use Rattle.rules.specs.Sound.{holes}
use Rattle.rules.specs.Allocate.{remains}
use Rattle.rules.specs.Resize.{stretch_end, resized}
use Rattle.rules.specs.InWords.{Gap}
use Rattle.rules.specs.declared.Place.{Place}
use Rattle.rules.specs.declared.Head.{Head}
use Rattle.rules.specs.declared.Hole.{Hole}
use Rattle.rules.specs.declared.Heap.{Heap}
use Rattle.rules.specs.Inner.{Inside, end_or}
use Rattle.rules.proofs.Gaps.{gap_le, gap_apart}
use Rattle.rules.proofs.Rises.{rises_le, rises_widen, rises_append}
use Rattle.rules.proofs.Used.{remains_rises}
use Rattle.rules.proofs.Resized.{resized_first, resized_behind, stretch_behind}
use Rattle.walk.specs.Walk.{last_place}
use Rattle.walk.specs.declared.Cursor.{Cursor}
use Rattle.walk.specs.Settled.{Settled}
use Rattle.joining.specs.Span.{Free, linked_to, merged_head, remainder, leads_to}
use Rattle.joining.proofs.Linked.{Linked, Middle, first_on, links}
use Rattle.joining.proofs.Remainder.{remainder_put, remainder_first, remainder_lands}
use Rattle.joining.proofs.Between.{Between, between, beyond, one, span_low, bounds}

module _ (h : Heap) (m : List ℕ) (g : Hole) (front back : List Hole) (s : Between h m g front back) where
  -- what the merge behind gives is the stretch
  pub stretch_is : stretch_end g (front ++ back) ≡ plus g.addr (one h m g front back s).size
  stretch_is =
      stretch_behind h.bottom.0 (end_or h.bottom.0 front) g front back s.least s.rises s.below ∙ (one h m g front back s).stretch

  module _ (want : ℕ) (d : Gap (g.addr.0 + want) (g.addr.0 + (one h m g front back s).size)) where
    abbrev size : ℕ
    size = (one h m g front back s).size

    abbrev rest : List Hole
    rest = (one h m g front back s).rest

    abbrev mid : List Hole
    mid = remains (plus g.addr want) (plus g.addr size)

    resized_is : resized g want (front ++ back) ≡ front ++ (mid ++ rest)
    resized_is =
        resized_behind h.bottom.0 (end_or h.bottom.0 front) g want front back s.rises s.below
        ∙ ap (λ (l : List Hole). front ++ l)
        (resized_first g want back (beyond g (h.base.0 + h.len) back s.least s.behind) ∙ (one h m g front back s).cut want)

    pub rest_linked :
        let q = first_of h.base rest in
        let w = remainder h.base (plus g.addr want) (plus g.addr size) q in
        Linked h.base m (resized g want (front ++ back)) (linked_to h.first m (last_place h.base none front) (leads_to w q) w)
    rest_linked =
        let o = one h m g front back s in
        let base = h.base in
        let lo = h.bottom.0 in
        let hi = base.0 + h.len in
        let e = end_or lo front in
        let f = s.fair in
        let q = first_of base rest in
        let from = plus g.addr want in
        let to = plus g.addr size in
        let up = gap_le from.0 to.0 d in
        let v = rises_le to.0 hi rest o.rises in
        let low = span_low h m g front back s in
        let piece = rises_widen e from.0 to.0 to.0 mid (omega (arith, s.below)) (omega arith) (remains_rises from to d) in
        let middle : Middle base m front mid rest (first_of base back) h.first =
        record {
          lo = lo;
          hi = hi;
          bytes = s.bytes;
          low = f.bottom;
          small = omega arith;
          lent = omega (arith, s.lent);
          rises = rises_append lo e hi front (mid ++ rest) s.rises (rises_append e to.0 hi mid rest piece o.rises);
          before = s.before;
          behind = o.holds;
          begins = s.first ∙ sym (first_on base front back);
        } in
        let high : to.0 ≤ addr_limit = omega arith in
        rw (resized_is, remainder_first base from to q, first_on base mid rest)
        (links front middle (remainder base from to q)
        (remainder_lands base from to q m (λ n. omega (arith, gap_apart from.0 to.0 d n, s.lent, low)))
        (remainder_put base from to q m))

-- ---- by the places of a cursor

module _ {h : Heap} {m : List ℕ} {cursor : Cursor} {g : Hole} (st : Settled h m) (f : Free h (holes h m) cursor g) {stretch : Head}
    (is : stretch ≡ merged_head h.base m g cursor.hole) where
  abbrev s : Between h m g f.front f.back
  s = between h m cursor g st f

  head_is : stretch ≡ record { size = (one h m g f.front f.back s).size; next = first_of h.base (one h m g f.front f.back s).rest }
  head_is = is ∙ ap (λ (p : Place). merged_head h.base m g p) f.next ∙ (one h m g f.front f.back s).head

  -- where the stretch ends
  pub stretch_end_lem : stretch_end g (holes h m) ≡ plus g.addr stretch.size
  stretch_end_lem =
      ap (λ (ks : List Hole). stretch_end g ks) f.list
      ∙ stretch_is h m g f.front f.back s
      ∙ ap (λ (x : Head). plus g.addr x.size) (sym head_is)

  -- the bounds of the code
  pub record Ends : Type 0 where
    pub low : h.base.0 ≤ g.addr.0
    pub high : g.addr.0 + stretch.size ≤ addr_limit
    pub least : min_size ≤ stretch.size
    pub before : Inside m cursor.prev

  pub ends : Ends
  ends =
      let o = one h m g f.front f.back s in
      let b = bounds h m g f.front f.back s in
      let v = rises_le (g.addr.0 + o.size) (h.base.0 + h.len) o.rest o.rises in
      let fair = s.fair in
      record { low = b.low; high = omega (arith, ap (λ (x : Head). x.size) head_is); least = omega (arith, ap (λ (x : Head). x.size) head_is, o.least); before = rw f.prev b.before }

  pub rest_relinked : (want : ℕ) → Gap (g.addr.0 + want) (g.addr.0 + stretch.size)
      → let w = remainder h.base (plus g.addr want) (plus g.addr stretch.size) stretch.next in
      Linked h.base m (resized g want (holes h m)) (linked_to h.first m cursor.prev (leads_to w stretch.next) w)
  rest_relinked want d =
      rw (f.list, f.prev, head_is) (rest_linked h m g f.front f.back s want (rw head_is at d))
