-- Every call that changes the heap leaves it sound, with as many holes at most as its size has room for. Assumes nothing.
use mathlib.Core.Path.{◌≡◌, refl}
use mathlib.Core.Bool.{true}
use mathlib.Core.List.{List, ◌++◌}
use Prim.Native.Nat.{ℕ, ◌+◌, ◌-◌, ◌%◌, ◌≤◌}
use native.Mathlib.Omega.{arith}
use lib.Dec.{ltb, eqb}
use lib.ListN.{length}
use borrow.Author.Tests.{ltb-true, ltb-false, eqb-true, not-false}
use Rattle.rules.specs.declared.Addr.{Addr}
use Rattle.rules.specs.declared.Hole.{Hole}
use Rattle.rules.specs.declared.Heap.{Heap}
use Rattle.rules.specs.Fixed.{min_size, grain}
use Rattle.rules.specs.Round.{Power, down_to}
use Rattle.rules.specs.Kinds.{plus}
use Rattle.rules.specs.Holes.{hole, first_of}
use Rattle.rules.specs.Sound.{sound_numbers, gap, sound_holes, holes}
use Rattle.rules.specs.Allocate.{rounded, Found, nothing, found, find, split}
use Rattle.rules.specs.Free.{freed}
use Rattle.rules.specs.Resize.{stretch_end, resized}
use Rattle.rules.specs.Changes.{Change}
use Rattle.rules.specs.Calls.{Call, opening, change, report, Outcome, refused, told, done, renewed, opened, taken, given, refitted, grown, gathered, extended, accepted}
use Rattle.rules.specs.Refusals.{Test, opened_tests, change_tests, tests}
use Rattle.rules.specs.Outcome.{decided, outcome}
use Rattle.rules.specs.Runs.{Fits}
use Rattle.rules.specs.Behaviour.{ours}
use Rattle.rules.specs.Statements.{SoundKept}
use Rattle.rules.specs.Inner.{Ruled}
use Rattle.std.proofs.lemmas.Bool.{cond_both, or_parts}
use Rattle.rules.proofs.Layouts.{rounded_multiple, rounded_least, layout_passed}
use Rattle.rules.proofs.Walk.{sound_ruled, sound_count}
use Rattle.rules.proofs.SoundWords.{ruled_words}
use Rattle.rules.proofs.AllocateKept.{allocate_kept}
use Rattle.rules.proofs.FreeKept.{renewed_ruled, free_sound, gather_ruled, gather_sound, grow_ruled, grow_sound}
use Rattle.rules.proofs.Gaps.{gap_words}
use Rattle.rules.proofs.ResizeWords.{resize_sound}
use Rattle.rules.proofs.OpenWords.{opened_ruled, opened_sound}
use Rattle.rules.proofs.Passes.{Passes, by_decided}

-- a sound heap, lent as many bytes as it was opened with
pub record Stands (len : ℕ) (h : Heap) (ks : List Hole) : Type 0 where
  pub ruled : Ruled h
  pub sound : sound_holes h ks ≡ true
  pub arena : len ≡ h.len

-- what a call leaves, if it changes the heap: a sound heap, whose first place is that of its first hole
abbrev pub Keeps : ℕ → Outcome → Type 0
Keeps len (refused r) = Unit {0}
Keeps len (told a ks) = Unit {0}
Keeps len (done a h ks) = Stands len h ks × (h.first ≡ first_of h.base ks)

-- what 3, 4 and 5 let through stands, and has passed the tests behind them
pub passed_opened : (len : ℕ) (h : Heap) (ks : List Hole) (ts : List Test) → Passes (opened_tests len h ks ++ ts)
    → Stands len h ks × Passes ts
passed_opened len h ks ts (open', (lent, (numbers, (its, behind)))) = (
  record {
    ruled = sound_ruled h (not-false (sound_numbers h) (or_parts _ _ numbers).0);
    sound = not-false (sound_holes h ks) (or_parts _ _ its).0;
    arena = eqb-true len h.len (not-false (eqb len h.len) (or_parts _ _ lent).0);
  },
  behind,
)

-- ---- call by call

module _ (len : ℕ) (h : Heap) (ks : List Hole) (st : Stands len h ks) where
  renewed_keeps : {js : List Hole} {top : Addr} {pending used : ℕ}
      → let h' = renewed h js top pending used in Ruled h' → sound_holes h' js ≡ true → Stands len h' js × (h'.first ≡ first_of h'.base js)
  renewed_keeps f e = (record { ruled = f; sound = e; arena = st.arena }, refl)

  taken_keeps : (s align : ℕ) (f : Found) → Power align → s % grain ≡ 0 → min_size ≤ s → find s align ks ≡ f
      → Keeps len (taken s align h ks f)
  unfolding taken
  taken_keeps s align nothing p s8 s16 e = tt
  taken_keeps s align (found front k back) p s8 s16 e =
      renewed_keeps (renewed_ruled h (front ++ (split s align k ++ back)) (h.used + s) st.ruled)
      (allocate_kept h s align ks front back k st.ruled.fair p s8 s16 st.sound e)

  change_keeps : (c : Change) → Fits (change c) → Passes (change_tests c h ks) → Keeps len (accepted (change c) len h ks)
  unfolding accepted given refitted extended gathered grown
  change_keeps (Change.allocate s align) f p =
      taken_keeps (rounded s) align (find (rounded s) align ks) (layout_passed s align f.1 p.0).power (rounded_multiple s)
      (rounded_least s) refl
  change_keeps (Change.free x s align) f p =
      let r = rounded s in
      renewed_keeps (renewed_ruled h (freed (hole x r) ks) (h.used - r) st.ruled)
      (free_sound h st.ruled.fair ks (hole x r) align p.1.0 st.sound (rounded_multiple s) (rounded_least s))
  change_keeps (Change.resize x s align n) f p =
      let g = hole x (rounded s) in
      let q = rounded n in
      let d = gap_words (plus x q) (stretch_end g ks) (not-false (gap (plus x q) (stretch_end g ks)) (or_parts _ _ p.1.1.1.0).0) in
      renewed_keeps (renewed_ruled h (resized g q ks) (h.used - g.size + q) st.ruled)
      (resize_sound h st.ruled.fair ks g align p.1.1.0 st.sound (rounded_multiple s) (rounded_least s) q (rounded_multiple n) (rounded_least n) d)
  change_keeps (Change.extend by) f p =
      let l = ltb-false (h.base.0 + h.len) (h.top.0 + h.pending + by) (or_parts _ _ p.0).0 in
      let sum = h.pending + by in
      let s = down_to grain sum in
      cond_both (ltb sum min_size) _ _ (Keeps len)
      (λ e.
      let few : sum ≤ 15 = omega (arith, ltb-true sum min_size e) in
      let fits : h.top.0 + sum ≤ h.base.0 + h.len = omega arith in
      renewed_keeps (gather_ruled h st.ruled ks st.sound sum few fits) (gather_sound h st.ruled ks st.sound sum few fits))
      (λ e.
      let few : sum % grain ≤ 15 = omega arith in
      let s8 : s % grain ≡ 0 = omega arith in
      let s16 : min_size ≤ s = omega (arith, ltb-false sum min_size e) in
      let fits : h.top.0 + s + sum % grain ≤ h.base.0 + h.len = omega arith in
      renewed_keeps (grow_ruled h st.ruled ks st.sound (sum % grain) few s s8 s16 fits)
      (grow_sound h st.ruled ks st.sound (sum % grain) few s s8 s16 fits))

accepted_keeps : (c : Call) (len : ℕ) (h : Heap) (ks : List Hole) → Fits c → Passes (tests c len h ks) → Keeps len (accepted c len h ks)
unfolding tests accepted opened
accepted_keeps (opening base named) len h ks f p =
    (record { ruled = opened_ruled len base named p.1.0; sound = opened_sound len base named p.1.0; arena = refl }, refl)
accepted_keeps (change c) len h ks f p =
    let (st, q) = passed_opened len h ks (change_tests c h ks) p in change_keeps len h ks st c f q
accepted_keeps (report r) len h ks f p = tt

pub decided_keeps : (c : Call) (len : ℕ) (h : Heap) (ks : List Hole) → Fits c → Keeps len (decided c len h ks)
decided_keeps c len h ks f = by_decided (Keeps len) c len h ks (λ r. tt) (accepted_keeps c len h ks f)

pub outcome_keeps : (c : Call) (h : Heap) (m : List ℕ) → Fits c → Keeps (length m) (outcome c h m)
unfolding outcome
outcome_keeps c h m f = decided_keeps c (length m) h (holes h m) f

pub sound_kept : SoundKept ours
sound_kept c h m a h' ks f e =
    let st = (rw e at (outcome_keeps c h m f)).0 in
    (ruled_words h' ks st.ruled st.sound, sound_count h' st.ruled.fair ks st.sound)
