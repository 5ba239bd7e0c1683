-- Whatever a call tells has room on the wire. Assumes nothing.
use mathlib.Core.Path.{◌≡◌, refl}
use mathlib.Core.List.{List, [], ◌∷◌, ◌++◌, Memᴰ}
use Prim.Native.Nat.{ℕ, suc, ◌+◌, ◌^◌, ◌≤◌}
use native.Mathlib.Omega.{arith}
use lib.Dec.{ltb}
use lib.ListN.{length, length-append}
use borrow.Author.Tests.{ltb-true, ltb-false}
use Rattle.rules.specs.declared.Hole.{Hole}
use Rattle.rules.specs.declared.Heap.{Heap}
use Rattle.rules.specs.Fixed.{min_size}
use Rattle.rules.specs.Tests.{any}
use Rattle.rules.specs.Kinds.{plus, not_after}
use Rattle.rules.specs.Holes.{end}
use Rattle.rules.specs.Sound.{holes}
use Rattle.rules.specs.Allocate.{rounded, candidate, Found, nothing, found, find, grant_of, largest_grant}
use Rattle.rules.specs.Changes.{Change, Report}
use Rattle.rules.specs.Calls.{Call, opening, change, report, Outcome, refused, only_hole, opened, taken, given, refitted, grown, gathered, extended, accepted}
use Rattle.rules.specs.Refusals.{Test, change_tests, report_tests, tests, unless}
use Rattle.rules.specs.Answers.{refusal_numbers, answer_numbers}
use Rattle.rules.specs.Outcome.{decided, outcome}
use Rattle.rules.specs.Runs.{Fits}
use Rattle.std.proofs.lemmas.Bool.{cond_both, or_parts}
use Rattle.rules.proofs.Powers.{power_pos}
use Rattle.rules.proofs.Layouts.{layout_passed}
use Rattle.rules.proofs.Used.{find_splits, suits_fits}
use Rattle.rules.proofs.Walk.{sound_count}
use Rattle.rules.proofs.SoundWords.{ruled_words}
use Rattle.rules.proofs.OpenWords.{opened_ruled, opened_sound}
use Rattle.rules.proofs.Passes.{Passes}
use Rattle.rules.proofs.SoundKept.{Stands, passed_opened}
use Rattle.lines.specs.Format.{Fit, HolesFit, OutcomeFits}
use Rattle.lines.specs.Statements.{OutcomesFit}

-- ---- a refusal by a test

-- what the tests give has room
abbrev Given : List Test → Type 0
Given [] = Unit {0}
Given (t ∷ ts) = Fit (refusal_numbers t.gives) × Given ts

by_given : (ts : List Test) (o : Outcome) → Given ts → (Passes ts → OutcomeFits o) → OutcomeFits (unless ts o)
unfolding unless
by_given [] o g f = f tt
by_given (t ∷ ts) o (g, gs) f =
    cond_both (any t.«exactly_if») (refused t.gives) (unless ts o) OutcomeFits (λ e. g) (λ e. by_given ts o gs (λ p. f (e, p)))

tests_given : (c : Call) (len : ℕ) (h : Heap) (ks : List Hole) → Given (tests c len h ks)
unfolding tests refusal_numbers
tests_given (opening base named) len h ks = omega arith
tests_given (change (Change.allocate s align)) len h ks = omega arith
tests_given (change (Change.free x s align)) len h ks = omega arith
tests_given (change (Change.resize x s align n)) len h ks = omega arith
tests_given (change (Change.extend by)) len h ks = omega arith
tests_given (report Report.list) len h ks = omega arith
tests_given (report (Report.room align)) len h ks = omega arith

-- ---- a sound heap lies below 2^63

record Low (h : Heap) (ks : List Hole) : Type 0 where
  top : h.top.0 + h.pending ≤ 2 ^ 63
  used : h.used ≤ h.top.0
  count : length ks ≤ 2 ^ 63
  each : (k : Hole) → Memᴰ k ks → k.addr.0 + k.size ≤ 2 ^ 63

stands_low : (len : ℕ) (h : Heap) (ks : List Hole) → Stands len h ks → Low h ks
stands_low len h ks st =
    let (n, s) = ruled_words h ks st.ruled st.sound in
    let c = sound_count h st.ruled.fair ks st.sound in
    record {
      top = omega (arith, n.fits, n.low);
      used = omega (arith, s.sums);
      count = omega (arith, n.fits, n.low, c);
      each = λ k m. omega (arith, (s.each k m).to, n.fits, n.low);
    }

-- ---- call by call

holes_fit : (ks : List Hole) → ((k : Hole) → Memᴰ k ks → k.addr.0 + k.size ≤ 2 ^ 63) → HolesFit ks
holes_fit [] l = tt
holes_fit (k ∷ ks) l =
    let m = l k (Memᴰ.head refl) in
    (omega arith, omega arith, holes_fit ks (λ j i. l j (Memᴰ.tail i)))

grant_low : (align : ℕ) (k : Hole) → grant_of align k ≤ k.addr.0 + k.size
unfolding grant_of
grant_low align k =
    cond_both (not_after (plus (candidate align k.addr) min_size) (end k)) _ _ (λ n. n ≤ k.addr.0 + k.size)
    (λ e. omega arith) (λ e. omega arith)

largest_low : (align : ℕ) (ks : List Hole) → ((k : Hole) → Memᴰ k ks → k.addr.0 + k.size ≤ 2 ^ 63)
    → largest_grant align ks ≤ 2 ^ 63
unfolding largest_grant
largest_low align [] l = omega arith
largest_low align (k ∷ ks) l =
    omega (arith, grant_low align k, l k (Memᴰ.head refl), largest_low align ks (λ j i. l j (Memᴰ.tail i)))

middle : (front back : List Hole) (k : Hole) → Memᴰ k (front ++ (k ∷ back))
middle [] back k = Memᴰ.head refl
middle (j ∷ front) back k = Memᴰ.tail (middle front back k)

module _ (len : ℕ) (h : Heap) (ks : List Hole) (st : Stands len h ks) where
  taken_fits : (s align : ℕ) (f : Found) → find s align ks ≡ f → OutcomeFits (taken s align h ks f)
  unfolding taken refusal_numbers answer_numbers
  taken_fits s align nothing e = let l = (stands_low len h ks st).count in omega arith
  taken_fits s align (found front k back) e =
      let low = stands_low len h ks st in
      let (is, suit) = find_splits s align ks front back k e in
      let at = low.each k (rw is (middle front back k)) in
      let n : length front + suc (length back) ≤ 2 ^ 63 = rw (is, length-append front (k ∷ back)) at low.count in
      omega (arith, suits_fits s align k suit)

  change_fits : (c : Change) → Fits (change c) → Passes (change_tests c h ks) → OutcomeFits (accepted (change c) len h ks)
  unfolding accepted given refitted extended gathered grown answer_numbers
  change_fits (Change.allocate s align) f p = taken_fits (rounded s) align (find (rounded s) align ks) refl
  change_fits (Change.free x s align) f p =
      let low = stands_low len h ks st in
      omega (arith, low.top, low.used, (layout_passed s align f.2 p.0).room)
  change_fits (Change.resize x s align n) f p =
      let low = stands_low len h ks st in
      let v = layout_passed n align f.2 p.1.0 in
      omega (arith, low.top, low.used, v.room, power_pos v.power)
  change_fits (Change.extend by) f p =
      let top = (stands_low len h ks st).top in
      let n = (ruled_words h ks st.ruled st.sound).0 in
      let l = ltb-false (h.base.0 + h.len) (h.top.0 + h.pending + by) (or_parts _ _ p.0).0 in
      cond_both (ltb (h.pending + by) min_size) _ _ OutcomeFits
      (λ e. omega (arith, ltb-true (h.pending + by) min_size e))
      (λ e. omega (arith, n.low))

  report_fits : (r : Report) → OutcomeFits (accepted (report r) len h ks)
  unfolding accepted answer_numbers
  report_fits Report.list =
      let low = stands_low len h ks st in
      (omega (arith, low.top, low.count), holes_fit ks low.each)
  report_fits (Report.room align) =
      let low = stands_low len h ks st in
      (omega (arith, low.count, largest_low align ks low.each), tt)

accepted_fits : (c : Call) (len : ℕ) (h : Heap) (ks : List Hole) → Fits c → Passes (tests c len h ks)
    → OutcomeFits (accepted c len h ks)
unfolding tests accepted answer_numbers opened
accepted_fits (opening base named) len h ks f p =
    let k = only_hole base named in
    let l = stands_low len (opened len base named) (k ∷ [])
    (record { ruled = opened_ruled len base named p.1.0; sound = opened_sound len base named p.1.0; arena = refl }) in
    omega (arith, l.top)
accepted_fits (change c) len h ks f p =
    let (st, q) = passed_opened len h ks (change_tests c h ks) p in change_fits len h ks st c f q
accepted_fits (report r) len h ks f p =
    let (st, q) = passed_opened len h ks (report_tests r) p in report_fits len h ks st r

pub outcomes_fit : OutcomesFit
unfolding outcome decided
outcomes_fit c h m f =
    by_given (tests c (length m) h (holes h m)) _ (tests_given c (length m) h (holes h m)) (accepted_fits c (length m) h (holes h m) f)
