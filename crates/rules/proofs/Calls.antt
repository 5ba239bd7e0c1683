-- What comes of a call, case by case: which tests refuse it, what is left once they pass, and what that leaves of heap, arena and
-- rows. Assumes nothing.
use mathlib.Core.Path.{◌≡◌, refl, ◌∙◌}
use mathlib.Core.Bool.{true, false, cond}
use Rattle.std.proofs.Common.{Ok, Err, Some, None}
use mathlib.Core.List.{List, [], ◌∷◌, ◌++◌}
use Prim.Native.Nat.{ℕ, ◌-◌}
use native.Mathlib.Omega.{arith}
use lib.ListN.{length}
use borrow.Author.Tests.{eq-eqb, ne_eqb}
use Rattle.rules.specs.declared.Addr.{Addr}
use Rattle.rules.specs.declared.Hole.{Hole}
use Rattle.rules.specs.declared.Heap.{Heap}
use Rattle.rules.specs.declared.Refusal.{Refusal}
use Rattle.rules.specs.declared.Refusal.TheVariants.{BadOpening, AlreadyOpened, Unopened, OtherLength, NotSound, BadLayout}
use Rattle.rules.specs.declared.Answer.{Answer}
use Rattle.rules.specs.declared.Answer.TheVariants.{Opened, Listed, Room}
use Rattle.rules.specs.Fixed.{min_size, grain}
use Rattle.rules.specs.Tests.{any}
use Rattle.rules.specs.Kinds.{raised}
use Rattle.rules.specs.Sound.{size, sound_numbers, sound_holes, holes}
use Rattle.rules.specs.Allocate.{find, largest_grant}
use Rattle.rules.specs.Calls.{Call, opening, allocate, free, resize, extend, list, room, Outcome, refused, told, done, only_hole, opened, taken, accepted}
use Rattle.rules.specs.Refusals.{Test, test, refusal1, refusal6, layout_of, opened_tests, tests, unless}
use Rattle.rules.specs.Outcome.{decided, outcome, leaves, after, Rows, in_rows, leaves_rows, rows_after}
use Rattle.rules.specs.Inner.{sifted, freeing, resizing, extending}
use Rattle.rules.proofs.Cases.{cases}
use Rattle.rules.proofs.Layouts.{layout_refused, layout_granted}
use Rattle.rules.proofs.Walk.{sound_fair}
use Rattle.rules.proofs.Decide.{unless_3, unless_4, unless_5, unless_fair, rest, Opens, decided_later}

-- ---- what an outcome leaves

module _ (c : Call) (h : Heap) (m : List ℕ) where
  pub answer_refused : (r : Refusal) → outcome c h m ≡ refused r → (after c h m).answer ≡ Err r
  unfolding after leaves
  answer_refused r e = rw e

  pub answer_told : (a : Answer) (ks : List Hole) → outcome c h m ≡ told a ks → (after c h m).answer ≡ Ok a
  unfolding after leaves
  answer_told a ks e = rw e

  pub rows_refused : (r : Refusal) (rows : Rows) → outcome c h m ≡ refused r → rows_after c h m rows ≡ rows
  unfolding rows_after leaves_rows
  rows_refused r rows e = rw e

  pub rows_told : (a : Answer) (ks : List Hole) (rows : Rows) → outcome c h m ≡ told a ks → rows_after c h m rows ≡ in_rows ks rows
  unfolding rows_after leaves_rows
  rows_told a ks rows e = rw e

-- ---- an outcome that waits on the holes

module _ (h : Heap) (ks : List Hole) where
  pub sifted_sound : (o : Outcome) → sound_holes h ks ≡ true → sifted h ks o ≡ o
  unfolding sifted
  sifted_sound o e = rw e

  pub sifted_broken : (o : Outcome) → sound_holes h ks ≡ false → sifted h ks o ≡ refused NotSound
  unfolding sifted
  sifted_broken o e = rw e

  pub sifted_refused : (r : Refusal) → sifted h ks (refused r) ≡ refused (cond (sound_holes h ks) r NotSound)
  unfolding sifted
  sifted_refused r = cases (sound_holes h ks) (λ e. rw e) (λ e. rw e)

-- ---- every call but open: 3, 4 and 5

module _ (c : Call) (h : Heap) (m : List ℕ) (later : Opens c ≡ false) where
  tested : outcome c h m ≡ unless (opened_tests (length m) h (holes h m) ++ rest c h (holes h m)) (accepted c (length m) h (holes h m))
  unfolding outcome
  tested = decided_later c (length m) h (holes h m) later

  pub outcome_3 : h.bottom.0 ≡ 0 → outcome c h m ≡ refused Unopened
  outcome_3 z = tested ∙ unless_3 (length m) h (holes h m) _ _ z

  pub outcome_4 : (h.bottom.0 ≡ 0 → ⊥) → (length m ≡ h.len → ⊥) → outcome c h m ≡ refused OtherLength
  outcome_4 n d = tested ∙ unless_4 (length m) h (holes h m) _ _ n d

  pub outcome_5 : (h.bottom.0 ≡ 0 → ⊥) → length m ≡ h.len → sound_numbers h ≡ false → outcome c h m ≡ refused NotSound
  outcome_5 n d e = tested ∙ unless_5 (length m) h (holes h m) _ _ n d e

  -- the numbers pass: the holes, and then the tests behind 5
  pub outcome_fair : length m ≡ h.len → sound_numbers h ≡ true
      → outcome c h m ≡ sifted h (holes h m) (unless (rest c h (holes h m)) (accepted c (length m) h (holes h m)))
  outcome_fair d e =
      let f = sound_fair h e in tested ∙ unless_fair (length m) h (holes h m) _ _ (λ z. omega arith) d e

-- ---- call by call

module _ (h : Heap) (m : List ℕ) (lent : length m ≡ h.len) (fair : sound_numbers h ≡ true) where
  -- a call whose first test behind 5 is 6
  pub layout_6 : (c : Call) → Opens c ≡ false → {ts : List Test} (s align : ℕ) → rest c h (holes h m) ≡ test BadLayout (refusal6 s align) ∷ ts
      → layout_of s align ≡ None → outcome c h m ≡ sifted h (holes h m) (refused BadLayout)
  unfolding unless
  layout_6 c later s align e b = outcome_fair c h m later lent fair ∙ rw (e, layout_refused s align b)

  pub allocate_on : (s align : ℕ) {w : ℕ} → layout_of s align ≡ Some w
      → outcome (allocate s align) h m ≡ sifted h (holes h m) (taken w align h (holes h m) (find w align (holes h m)))
  unfolding unless accepted
  allocate_on s align e =
      let l = layout_granted s align e in
      outcome_fair (allocate s align) h m refl lent fair ∙ rw (l.0, l.1)

  pub free_on : (a : Addr) (s align : ℕ) {w : ℕ} → layout_of s align ≡ Some w
      → outcome (free a s align) h m ≡ sifted h (holes h m) (freeing w a align h (holes h m))
  unfolding unless accepted freeing
  free_on a s align e =
      let l = layout_granted s align e in
      outcome_fair (free a s align) h m refl lent fair ∙ rw (l.0, l.1)

  -- the old layout passes and the new one does not
  pub resize_6 : (a : Addr) (s align n : ℕ) {w : ℕ} → layout_of s align ≡ Some w → layout_of n align ≡ None
      → outcome (resize a s align n) h m ≡ sifted h (holes h m) (refused BadLayout)
  unfolding unless
  resize_6 a s align n e b =
      let l = layout_granted s align e in
      outcome_fair (resize a s align n) h m refl lent fair ∙ rw (l.0, layout_refused n align b)

  pub resize_on : (a : Addr) (s align n : ℕ) {w q : ℕ} → layout_of s align ≡ Some w → layout_of n align ≡ Some q
      → outcome (resize a s align n) h m ≡ sifted h (holes h m) (resizing w a align q h (holes h m))
  unfolding unless accepted resizing
  resize_on a s align n e f =
      let l = layout_granted s align e in
      let k = layout_granted n align f in
      outcome_fair (resize a s align n) h m refl lent fair ∙ rw (l.0, l.1, k.0, k.1)

  pub extend_on : (by : ℕ) → outcome (extend by) h m ≡ sifted h (holes h m) (extending by h (holes h m))
  unfolding unless accepted extending
  extend_on by = outcome_fair (extend by) h m refl lent fair

  pub list_on : outcome list h m ≡ sifted h (holes h m) (told (Listed (length (holes h m)) (size h - h.used)) (holes h m))
  unfolding unless accepted
  list_on = outcome_fair list h m refl lent fair

  pub room_on : (align : ℕ) {w : ℕ} → layout_of min_size align ≡ Some w
      → outcome (room align) h m ≡ sifted h (holes h m) (told (Room (largest_grant align (holes h m)) (length (holes h m))) [])
  unfolding unless accepted
  room_on align e = let l = layout_granted min_size align e in outcome_fair (room align) h m refl lent fair ∙ rw l.0

-- ---- open

module _ (base : Addr) (named : ℕ) (h : Heap) (m : List ℕ) where
  pub opening_2 : (h.bottom.0 ≡ 0 → ⊥) → outcome (opening base named) h m ≡ refused AlreadyOpened
  unfolding outcome decided tests unless
  opening_2 n = rw (ne_eqb h.bottom.0 0 n)

  pub opening_1 : h.bottom.0 ≡ 0 → any (refusal1 (length m) base named) ≡ true → outcome (opening base named) h m ≡ refused BadOpening
  unfolding outcome decided tests unless
  opening_1 z e = rw (eq-eqb h.bottom.0 0 z, e)

  pub opening_on : h.bottom.0 ≡ 0 → any (refusal1 (length m) base named) ≡ false
      → outcome (opening base named) h m
      ≡ done (Opened (raised grain base) (only_hole base named).size) (opened (length m) base named) (only_hole base named ∷ [])
  unfolding outcome decided tests unless accepted
  opening_on z e = rw (eq-eqb h.bottom.0 0 z, e)
