-- `check_merge_top` and `check_merge_bottom` do as the original's, and change no hole on shared ground. Assumes nothing.
use mathlib.Core.Path.{◌≡◌, refl, ◌∙◌}
use mathlib.Core.Bool.{false}
use mathlib.Core.List.Memᴰ
use mathlib.Core.List.{List, [], ◌∷◌, ◌++◌}
use mathlib.Core.Logic.{inl, inr}
use Prim.Native.Nat.{ℕ, ◌+◌, ◌-◌, ◌%◌, ◌≤◌}
use native.Mathlib.Omega.{arith}
use borrow.Author.Tests.{lt-ltb, ltb-true}
use Rattle.rules.specs.declared.Addr.{Addr}
use Rattle.rules.specs.declared.Hole.{Hole}
use Rattle.rules.specs.declared.Heap.{Heap}
use Rattle.rules.specs.Fixed.{min_size, grain}
use Rattle.rules.specs.Tests.{all, any}
use Rattle.rules.specs.Round.{up_to}
use Rattle.rules.specs.Kinds.{addr}
use Rattle.rules.specs.Holes.{hole, end}
use Rattle.rules.specs.Free.{joined, in_front, freed}
use Rattle.rules.specs.Refusals.{refusal8}
use Rattle.rules.specs.Calls.{renewed}
use Rattle.rules.specs.InWords.{Gap, SoundHoles, Sound}
use Rattle.rules.specs.Inner.{Rises}
use Rattle.demands.specs.LeftOut.{near_top, to_top, check_merge_top, near_bottom, to_bottom, check_merge_bottom, TopMerged, BottomMerged, Merges, Harmless}
use Rattle.std.proofs.lemmas.Bool.{cond_both}
use Rattle.rules.proofs.Cases.{by_eq, apart, all_each, each_all}
use Rattle.rules.proofs.Multiples.{up_is, above_is}
use Rattle.rules.proofs.Gaps.{eights_gap}
use Rattle.rules.proofs.Rises.{rises_le, sound_rises}
use Rattle.rules.proofs.Clear.{passed}
use Rattle.rules.proofs.Freed.{freed_step, joins_before}
use Rattle.rules.proofs.FreeKept.{free_sound}
use Rattle.rules.proofs.SoundWords.{words_fair, words_holes, holes_words}

-- two of one address and one size are one
is_addr : {a b : Addr} → a.0 ≡ b.0 → a ≡ b
is_addr e = λ i. addr (e i)

is_hole : {j k : Hole} → j.addr ≡ k.addr → j.size ≡ k.size → j ≡ k
is_hole p q = λ i. hole (p i) (q i)

-- ---- one node: what the original's lines do to it

top_merged : (top : Addr) (k : Hole) → TopMerged top k (to_top top k)
unfolding to_top
top_merged top k =
    cond_both (all (near_top top k)) _ _ (TopMerged top k)
    (λ e.
    let r = all_each (near_top top k) e in
    record {
      stays = refl;
      past = λ p. absurd (omega (arith, ltb-true));
      fits = λ x a f. absurd (omega (arith, ltb-true, above_is (omega arith) a));
      grows = λ x o p a f q. omega (arith, ltb-true);
    })
    (λ e.
    record {
      stays = refl;
      past = λ p. refl;
      fits = λ x a f. refl;
      grows =
          λ x o p a f q.
          let u = above_is (omega arith) a in
          apart (each_all (near_top top k) (omega (arith, lt-ltb))) e;
    })

bottom_merged : (bottom : Addr) (k : Hole) → BottomMerged bottom k (to_bottom bottom k)
unfolding to_bottom
bottom_merged bottom k =
    cond_both (all (near_bottom bottom k)) _ _ (BottomMerged bottom k)
    (λ e.
    let r = all_each (near_bottom bottom k) e in
    record { near = λ o n q. (refl, omega arith); far = λ f. absurd (omega (arith, ltb-true)) })
    (λ e.
    record { near = λ o n q. apart (each_all (near_bottom bottom k) (omega (arith, lt-ltb))) e; far = λ f. refl })

-- ---- and to a list

top_last : (top : Addr) (front : List Hole) (k : Hole) → check_merge_top top (front ++ (k ∷ [])) ≡ front ++ (to_top top k ∷ [])
unfolding check_merge_top
top_last top [] k = refl
top_last top (j ∷ []) k = refl
top_last top (j ∷ i ∷ front) k = rw (top_last top (i ∷ front) k)

bottom_first : (bottom : Addr) (k : Hole) (back : List Hole) → check_merge_bottom bottom (k ∷ back) ≡ to_bottom bottom k ∷ back
unfolding check_merge_bottom
bottom_first bottom k back = refl

-- 8 bytes
eight_to_top : (a s : ℕ) → to_top (addr (a + s + 8)) (hole (addr a) s) ≡ hole (addr a) (s + 8)
eight_to_top a s =
    let t = top_merged (addr (a + s + 8)) (hole (addr a) s) in
    let u = up_is 8 (a + s) (omega arith) in
    is_hole t.stays (t.grows (up_to 8 (a + s)) 8 (omega arith) u (omega (arith, u.above)) refl)

eight_to_bottom : (a s : ℕ) → to_bottom (addr a) (hole (addr (a + 8)) s) ≡ hole (addr a) (s + 8)
eight_to_bottom a s =
    let t = (bottom_merged (addr a) (hole (addr (a + 8)) s)).near 8 (omega arith) refl in
    is_hole t.0 t.1

pub merges : Merges
unfolding check_merge_top check_merge_bottom
merges =
    record {
      last = λ top front k. (to_top top k, top_merged top k, top_last top front k);
      first = λ bottom k back. (to_bottom bottom k, bottom_merged bottom k, bottom_first bottom k back);
      no_last = λ top. refl;
      no_first = λ bottom. refl;
      eight_to_top = λ a s front. rw (← eight_to_top a s) (top_last (addr (a + s + 8)) front (hole (addr a) s));
      eight_to_bottom = λ a s back. rw (← eight_to_bottom a s) (bottom_first (addr a) (hole (addr (a + 8)) s) back);
    }

-- ---- one hole, by where it lies

bottom_clear : (bottom : Addr) (k : Hole) → Gap bottom.0 k.addr.0 → to_bottom bottom k ≡ k
bottom_clear bottom k (inl e) =
    let t = (bottom_merged bottom k).near 0 (omega arith) (omega arith) in
    is_hole (t.0 ∙ is_addr e) (omega (arith, t.1))
bottom_clear bottom k (inr l) = (bottom_merged bottom k).far l

top_past : (top : Addr) (k : Hole) → top.0 ≤ (end k).0 → to_top top k ≡ k
top_past top k l = let t = top_merged top k in is_hole t.stays (t.past l)

top_clear : (top : Addr) (k : Hole) → (end k).0 % grain ≡ 0 → Gap (end k).0 top.0 → to_top top k ≡ k
top_clear top k e (inl q) = top_past top k (omega arith)
top_clear top k e (inr l) =
    let t = top_merged top k in
    is_hole t.stays (t.fits (up_to grain (end k).0) (up_is grain (end k).0 (omega arith)) (omega arith))

-- ---- the first and the last of a list

first_clear : (bottom : Addr) (k : Hole) (ks : List Hole) → Gap bottom.0 k.addr.0 → check_merge_bottom bottom (k ∷ ks) ≡ k ∷ ks
first_clear bottom k ks gap = rw (bottom_first bottom k ks, bottom_clear bottom k gap)

last_clear : (top : Addr) (ks : List Hole) → ((front : List Hole) (k : Hole) → ks ≡ front ++ (k ∷ []) → to_top top k ≡ k)
    → check_merge_top top ks ≡ ks
unfolding check_merge_top
last_clear top [] f = refl
last_clear top (k ∷ []) f = rw (f [] k refl)
last_clear top (k ∷ j ∷ ks) f = rw (last_clear top (j ∷ ks) (λ front i e. f (k ∷ front) i (rw e)))

last_past : (top : Addr) (front : List Hole) (k : Hole) → top.0 ≤ (end k).0
    → check_merge_top top (front ++ (k ∷ [])) ≡ front ++ (k ∷ [])
last_past top front k l = rw (top_last top front k, top_past top k l)

holes_bottom : (h : Heap) (ks : List Hole) → SoundHoles h ks → check_merge_bottom h.bottom ks ≡ ks
unfolding check_merge_bottom
holes_bottom h [] w = refl
holes_bottom h (k ∷ ks) w = first_clear h.bottom k ks (w.first k ks refl)

holes_top : (h : Heap) (ks : List Hole) → SoundHoles h ks → check_merge_top h.top ks ≡ ks
holes_top h ks w =
    last_clear h.top ks
    (λ front k e.
    let q = w.each k (rw e (Memᴰ.append_right front (Memᴰ.head refl))) in
    top_clear h.top k (omega arith) (w.last front k e))

-- ---- a span that refusal 8 lets through

freed_bottom : (h : Heap) (ks : List Hole) (g : Hole) (align : ℕ) → Sound h ks → any (refusal8 h ks g align) ≡ false
    → check_merge_bottom h.bottom (g ∷ ks) ≡ g ∷ ks
freed_bottom h ks g align s e =
    let p = passed h ks g align e in
    let f = words_fair h s.0 in
    first_clear h.bottom g ks (eights_gap h.bottom.0 g.addr.0 f.bottom8 p.at8 p.low.0 p.low.1)

freed_top : (h : Heap) (ks : List Hole) (g : Hole) (align : ℕ) → Sound h ks → any (refusal8 h ks g align) ≡ false
    → g.size % grain ≡ 0
    → min_size ≤ g.size
    → check_merge_top h.top (freed g ks) ≡ freed g ks
freed_top h ks g align s e s8 s16 =
    let h' = renewed h (freed g ks) h.top h.pending (h.used - g.size) in
    holes_top h' (freed g ks)
    (holes_words h' (freed g ks) (free_sound h (words_fair h s.0) ks g align e (words_holes h ks s.1) s8 s16))

-- ---- a span behind all holes: the last of what it leaves ends no earlier than it starts

abbrev Ended : Hole → List Hole → Type 0
Ended g ks = (front : List Hole) × (k : Hole) × (freed g ks ≡ front ++ (k ∷ [])) × (g.addr.0 ≤ (end k).0)

ended : (lo : ℕ) (g : Hole) (ks : List Hole) → Rises lo g.addr.0 ks → Ended g ks
unfolding freed in_front
ended lo g [] r = ([], g, refl, omega arith)
ended lo g (k ∷ []) r =
    by_eq (end k).0 g.addr.0
    (λ e. ([], joined k g, joins_before g k [] (omega arith) e, omega arith))
    (λ n. (k ∷ [], g, freed_step g k [] (omega (arith, n)), omega arith))
ended lo g (k ∷ j ∷ ks) r =
    let l = rises_le (j.addr.0 + j.size) g.addr.0 ks r.2.2 in
    let (front, last, e, m) = ended (k.addr.0 + k.size) g (j ∷ ks) r.2 in
    (k ∷ front, last, freed_step g k (j ∷ ks) (omega arith) ∙ rw e, m)

grown_top : (h : Heap) (ks : List Hole) (s : ℕ) → Sound h ks
    → check_merge_top h.top (freed (hole h.top s) ks) ≡ freed (hole h.top s) ks
grown_top h ks s w =
    let rises = sound_rises h (words_fair h w.0) ks (words_holes h ks w.1) in
    let (front, k, e, l) = ended h.bottom.0 (hole h.top s) ks rises in
    rw e (last_past h.top front k l)

pub harmless : Harmless
harmless =
    record {
      freed_bottom = freed_bottom;
      freed_top = freed_top;
      grown_bottom = λ h ks s w. first_clear h.bottom (hole h.top s) ks (inr w.0.sixteen);
      grown_top = grown_top;
      sound_bottom = λ h ks w. holes_bottom h ks w.1;
      sound_top = λ h ks w. holes_top h ks w.1;
    }
