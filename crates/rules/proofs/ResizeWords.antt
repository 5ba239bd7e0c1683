-- What a resize does, in the paper's words: where the stretch ends, which addresses are free after it, and that the heap stays sound.
-- Assumes nothing.
use mathlib.Core.Path.{◌≡◌, refl, sym, subst, ap, ◌∙◌}
use mathlib.Core.Bool.{true, false}
use mathlib.Core.List.Memᴰ
use mathlib.Core.List.{List, [], ◌∷◌, Memᴰ}
use mathlib.Core.Logic.{◌⊎◌, inl, inr, ⊎_elim}
use Prim.Native.Nat.{ℕ, ◌+◌, ◌-◌, ◌%◌, ◌≤◌, ◌<◌}
use native.Mathlib.Omega.{arith}
use borrow.Author.Tests.{eqb-true, eqb-false, ne_eqb, not-false}
use Rattle.std.proofs.Common.{Decides}
use Rattle.std.proofs.lemmas.Bool.Decides.{Decides-not}
use Rattle.rules.specs.declared.Addr.{Addr}
use Rattle.rules.specs.declared.Hole.{Hole}
use Rattle.rules.specs.declared.Heap.{Heap}
use Rattle.rules.specs.Fixed.{min_size, grain}
use Rattle.rules.specs.Tests.{any}
use Rattle.rules.specs.Kinds.{plus}
use Rattle.rules.specs.Holes.{hole, end, total}
use Rattle.rules.specs.Sound.{sound_holes, holes}
use Rattle.rules.specs.Allocate.{rounded}
use Rattle.rules.specs.Free.{touch, freed}
use Rattle.rules.specs.Resize.{stretch_end, resized}
use Rattle.rules.specs.Calls.{resize, renewed, refitted, accepted}
use Rattle.rules.specs.Refusals.{refusal8, refusal10, unless}
use Rattle.rules.specs.InWords.{Gap, Within, Vacant, StretchEnds, NoStretch}
use Rattle.rules.specs.Behaviour.{ours}
use Rattle.rules.specs.Statements.{ResizeDoes, SameSizeGranted}
use Rattle.rules.specs.Inner.{Fair, Rises, behind}
use Rattle.std.proofs.lemmas.Bool.{cond_both, or_parts}
use Rattle.rules.proofs.Cases.{by_le}
use Rattle.rules.proofs.Gaps.{gap_words, words_gap, gap_le}
use Rattle.rules.proofs.Walk.{walks, floor_of, walks_head, walks_tail, sound_walk, sound_sum, walk_sound}
use Rattle.rules.proofs.Floors.{raised_walk}
use Rattle.rules.proofs.Rises.{sound_rises}
use Rattle.rules.proofs.Totals.{added, freed_added, bytes_add, total_added}
use Rattle.rules.proofs.Clear.{passed}
use Rattle.rules.proofs.Cover.{Inside, once, cover, once_before, once_behind, once_in, once_inside, once_most, once_adds, vacant_cover, cover_vacant}
use Rattle.rules.proofs.FreedWalk.{Span}
use Rattle.rules.proofs.FreeKept.{renewed_ruled, free_room, free_sound}
use Rattle.rules.proofs.Resized.{stretch_touch, floor_resized, resized_added}
use Rattle.rules.proofs.SoundWords.{rounds_rounded, words_ruled, ruled_words}
use Rattle.rules.proofs.TestWords.{means_last, means_fails, no_span}
use Rattle.rules.proofs.Good.{good_fair, good_holes, good_outcome, valid_passes, renewed_becomes}

-- ---- where the stretch ends

stretch_ends : (g : Hole) (ks : List Hole) → StretchEnds ks g.addr.0 g.size (stretch_end g ks).0
unfolding stretch_end
stretch_ends g [] = inr (λ k m. absurd (Memᴰ.not-nil m), refl)
stretch_ends g (k ∷ ks) =
    cond_both (touch g k) (end k) (stretch_end g ks) (λ (e : Addr). StretchEnds (k ∷ ks) g.addr.0 g.size e.0)
    (λ t. inl (k, Memᴰ.head refl, sym (eqb-true (end g).0 k.addr.0 t), refl))
    (λ t.
    ⊎_elim
    (λ (j, i, starts, ends). inl (j, Memᴰ.tail i, starts, ends))
    (λ (none, ends).
    inr (
      λ j m starts.
          ⊎_elim
          (λ (q : j ≡ k). eqb-false (end g).0 k.addr.0 t (sym starts ∙ ap (λ (x : Hole). x.addr.0) q))
          (λ i. none j i starts)
          (Memᴰ.cases_cons m),
      ends,
    ))
    (stretch_ends g ks))

walks_member : (h : Heap) (floor : Addr) (ks : List Hole) (k : Hole) → walks h floor ks ≡ true → Memᴰ k ks → floor.0 ≤ k.addr.0
walks_member h floor [] k w m = absurd (Memᴰ.not-nil m)
walks_member h floor (j ∷ js) k w m =
    let q = walks_head h floor j js w in
    ⊎_elim
    (λ (e : k ≡ j). rw e q.above)
    (λ t. omega (arith, q.above, walks_member h (behind j) js k (walks_tail h floor j js w) t))
    (Memᴰ.cases_cons m)

module _ (h : Heap) (g : Hole) where
  touching_ends : (floor : Addr) (ks : List Hole) (k : Hole) → walks h floor ks ≡ true → Memᴰ k ks → k.addr.0 ≡ (end g).0
      → stretch_end g ks ≡ end k
  unfolding stretch_end
  touching_ends floor [] k w m e = absurd (Memᴰ.not-nil m)
  touching_ends floor (j ∷ js) k w m e =
      ⊎_elim
      (λ (q : k ≡ j). rw q (stretch_touch g j js (sym e ∙ ap (λ (x : Hole). x.addr.0) q)))
      (λ t.
      let l = walks_member h (behind j) js k (walks_tail h floor j js w) t in
      rw (ne_eqb (end g).0 j.addr.0 (λ z. omega (arith, z, e, l))) (touching_ends (behind j) js k (walks_tail h floor j js w) t e))
      (Memᴰ.cases_cons m)

  untouched_ends : (ks : List Hole) → ((k : Hole) → Memᴰ k ks → k.addr.0 ≡ (end g).0 → ⊥) → stretch_end g ks ≡ end g
  unfolding stretch_end
  untouched_ends [] n = refl
  untouched_ends (j ∷ js) n =
      rw (ne_eqb (end g).0 j.addr.0 (λ z. n j (Memᴰ.head refl) (sym z))) (untouched_ends js (λ k t. n k (Memᴰ.tail t)))

  -- there is one end
  ends_stretch : (floor : Addr) (ks : List Hole) {e : ℕ} → walks h floor ks ≡ true → StretchEnds ks g.addr.0 g.size e
      → (stretch_end g ks).0 ≡ e
  ends_stretch floor ks w (inl (k, i, starts, ends)) = ap (λ (a : Addr). a.0) (touching_ends floor ks k w i starts) ∙ ends
  ends_stretch floor ks w (inr (none, ends)) = ap (λ (a : Addr). a.0) (untouched_ends ks none) ∙ ends

  pub no_stretch : (floor : Addr) (ks : List Hole) (s : ℕ) → walks h floor ks ≡ true
      → Decides (any (refusal10 ks g s)) (NoStretch ks g.addr.0 g.size s)
  no_stretch floor ks s w =
      let lo = plus g.addr s in
      let hi = stretch_end g ks in
      let m = means_last (Decides-not _ (gap_words lo hi, words_gap lo hi)) in (
        λ t. (hi.0, stretch_ends g ks, m.0 t),
        λ (e, ends, n). m.1 (subst (λ (z : ℕ). Gap lo.0 z → ⊥) (sym (ends_stretch floor ks w ends)) n),
      )

-- ---- soundness is kept

module _ (h : Heap) (f : Fair h) (ks : List Hole) (g : Hole) (align : ℕ) (pass : any (refusal8 h ks g align) ≡ false)
    (e : sound_holes h ks ≡ true) (g8 : g.size % grain ≡ 0) (g16 : min_size ≤ g.size) (s : ℕ) (s8 : s % grain ≡ 0) (s16 : min_size ≤ s)
    (d : Gap (g.addr.0 + s) (stretch_end g ks).0) where
  pub resize_added : (y : ℕ) → cover y (resized g s ks) + once y (hole g.addr s) ≡ cover y ks + once y g
  resize_added y =
      resized_added (once_adds y) h g s (floor_of h ks) ks g16 (sound_walk h f ks e) (passed h ks g align pass).clear
      (gap_le (g.addr.0 + s) (stretch_end g ks).0 d)

  resize_total : total (resized g s ks) + s ≡ total ks + g.size
  resize_total =
      rw (total_added (resized g s ks), total_added ks)
      (resized_added bytes_add h g s (floor_of h ks) ks g16 (sound_walk h f ks e) (passed h ks g align pass).clear
      (gap_le (g.addr.0 + s) (stretch_end g ks).0 d))

  pub resize_sound : let new = resized g s ks in sound_holes (renewed h new h.top h.pending (h.used - g.size + s)) new ≡ true
  resize_sound =
      let p = passed h ks g align pass in
      let new = resized g s ks in
      let h' = renewed h new h.top h.pending (h.used - g.size + s) in
      let f' : Fair h' = omega arith in
      let span : Span h g = record { at8 = p.at8; size8 = g8; sixteen = g16; to = p.high.0; high = p.high.1 } in
      walk_sound h' f' new
      (raised_walk h h' new refl (inl refl) (floor_resized h g s ks f span s8 s16 p.low (sound_walk h f ks e) p.clear d))
      (omega (arith, sound_sum h f ks e, free_room h f ks g align pass e, resize_total))

-- ---- which addresses are free

rises_below : (y lo hi : ℕ) (ks : List Hole) → Rises lo hi ks → y < lo → cover y ks ≡ 0
unfolding added
rises_below y lo hi [] r l = refl
rises_below y lo hi (k ∷ ks) r l = omega (arith, once_before y k (omega arith), rises_below y (end k).0 hi ks r.2 (omega arith))

-- holes that rise cover no address twice
rises_once : (y lo hi : ℕ) (ks : List Hole) → Rises lo hi ks → cover y ks ≤ 1
unfolding added
rises_once y lo hi [] r = omega arith
rises_once y lo hi (k ∷ ks) r =
    by_le (end k).0 y
    (λ l. omega (arith, once_behind y k l, rises_once y (end k).0 hi ks r.2))
    (λ l. omega (arith, once_most y k, rises_below y (end k).0 hi ks r.2 l))

module _ (h : Heap) (f : Fair h) (ks : List Hole) (g : Hole) (align : ℕ) (pass : any (refusal8 h ks g align) ≡ false)
    (e : sound_holes h ks ≡ true) (g8 : g.size % grain ≡ 0) (g16 : min_size ≤ g.size) (s : ℕ)
    (adds : (y : ℕ) → cover y (resized g s ks) + once y (hole g.addr s) ≡ cover y ks + once y g) where
  -- no address lies in a hole and in the block
  apart_once : (y : ℕ) → cover y ks + once y g ≤ 1
  apart_once y =
      let h' = renewed h (freed g ks) h.top h.pending (h.used - g.size) in
      let f' : Fair h' = omega arith in
      omega (
        arith,
        freed_added (once_adds y) g ks,
        rises_once y h.bottom.0 h.top.0 (freed g ks) (sound_rises h' f' (freed g ks) (free_sound h f ks g align pass e g8 g16)),
      )

  pub resized_vacates : (y : ℕ) → Vacant (resized g s ks) y → (Vacant ks y ⊎ Inside g y) × (Within g.addr.0 s y → ⊥)
  resized_vacates y v =
      let n = vacant_cover y (resized g s ks) v in (
        by_le 1 (cover y ks)
            (λ l. inl (cover_vacant y ks l))
            (λ l. inr (once_inside y g (omega (arith, n, adds y)))),
        λ w. omega (arith, n, adds y, apart_once y, once_in y (hole g.addr s) w),
      )

  pub vacates_resized : (y : ℕ) → Vacant ks y ⊎ Inside g y → (Within g.addr.0 s y → ⊥) → Vacant (resized g s ks) y
  vacates_resized y v out =
      let none : once y (hole g.addr s) ≡ 0 =
      by_le 1 (once y (hole g.addr s)) (λ l. absurd (out (once_inside y (hole g.addr s) l))) (λ l. omega arith) in
      cover_vacant y (resized g s ks)
      (⊎_elim
      (λ a. omega (arith, vacant_cover y ks a, adds y, none))
      (λ a. omega (arith, once_in y g a, adds y, none))
      v)

-- ---- the statement

pub resize_does : ResizeDoes ours
unfolding unless accepted refitted
resize_does h m x s align n r q g v w free fits =
    let ks = holes h m in
    let f = good_fair h m g in
    let e = good_holes h m g in
    let is : r ≡ rounded s = rounds_rounded v.rounds in
    let so : q ≡ rounded n = rounds_rounded w.rounds in
    let block = hole x r in
    let pass = means_fails (no_span x r h ks align) free in
    let ten = means_fails (no_stretch h block (floor_of h ks) ks q (sound_walk h f ks e)) fits in
    let d : Gap (x.0 + q) (stretch_end block ks).0 = gap_words (plus x q) (stretch_end block ks) (not-false _ (or_parts _ _ ten).0) in
    let new = resized block q ks in
    let used = h.used - r + q in
    let h' = renewed h new h.top h.pending used in
    let ruled = renewed_ruled h new used (words_ruled h g.1.0) in
    let sound = resize_sound h f ks block align pass e v.rounds.multiple v.rounds.sixteen q w.rounds.multiple w.rounds.sixteen d in
    let adds = resize_added h f ks block align pass e v.rounds.multiple v.rounds.sixteen q w.rounds.multiple w.rounds.sixteen d in (
      h',
      new,
      good_outcome (resize x s align n) h m refl g ∙ rw (valid_passes s align r v, valid_passes n align q w, ← is, ← so, pass, ten),
      free_room h f ks block align pass e,
      record {
        vacant = resized_vacates h f ks block align pass e v.rounds.multiple v.rounds.sixteen q adds;
        becomes_free = vacates_resized h f ks block align pass e v.rounds.multiple v.rounds.sixteen q adds;
        sound = ruled_words h' new ruled sound;
        becomes = renewed_becomes h new h.top h.pending used h.bottom.0 h.top.0 f.bottom (sound_rises h' ruled.fair new sound);
      },
    )

-- the stretch of a block is the block, or 16 bytes longer at least
pub same_size_granted : SameSizeGranted ours
same_size_granted h m x s align r g v free =
    let fits : NoStretch (holes h m) x.0 r r → ⊥ =
    λ (e, ends, none).
    none
    (⊎_elim
    (λ (k, i, starts, to). inr (omega (arith, starts, to, (g.1.1.each k i).sixteen)))
    (λ (untouched, to). inl to)
    ends) in
    let (h', new, does, least, other) = resize_does h m x s align s r r g v v free fits in
    let used : h.used - r + r ≡ h.used = omega (arith, least) in
    (h', new, rw used at does)
