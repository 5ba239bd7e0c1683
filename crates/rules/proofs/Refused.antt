-- Each call is refused for what the paper's table says, in the table's order, and for nothing else. Assumes nothing.
use mathlib.Core.Path.{◌≡◌, refl, ap}
use mathlib.Core.Bool.{true, false, not}
use mathlib.Core.List.{List, [], ◌∷◌, ◌++◌}
use Prim.Native.Nat.{ℕ, ◌+◌}
use lib.Dec.{ltb}
use lib.ListN.{length}
use borrow.Author.Tests.{not-false}
use Rattle.std.proofs.Common.{Decides as Means}
use Rattle.std.proofs.lemmas.Bool.Decides.{Decides-not, Decides-eqb, Decides-ltb}
use Rattle.rules.specs.declared.Hole.{Hole}
use Rattle.rules.specs.declared.Heap.{Heap}
use Rattle.rules.specs.declared.Refusal.TheVariants.{Unopened, OtherLength, NotSound, BadLayout, NoRoom}
use Rattle.rules.specs.Fixed.{min_size}
use Rattle.rules.specs.Holes.{hole}
use Rattle.rules.specs.Round.{Power}
use Rattle.rules.specs.Tests.{any}
use Rattle.rules.specs.Sound.{sound_numbers, sound_holes, sound, holes}
use Rattle.rules.specs.Allocate.{rounded, candidate, Found, nothing, found, find}
use Rattle.rules.specs.Changes.{Change, Report}
use Rattle.rules.specs.Calls.{opening, change, report, list, Outcome, refused, taken, given, refitted, gathered, grown, extended, accepted}
use Rattle.rules.specs.Refusals.{refusal3, refusal4, Test, test, opened_tests, change_tests, report_tests, tests, unless}
use Rattle.rules.specs.Outcome.{decided, outcome}
use Rattle.rules.specs.InWords.{Rounds, RoomAt, NoLayout, NoSpan, NoStretch}
use Rattle.rules.specs.Runs.{Fits}
use Rattle.rules.specs.Behaviour.{ours}
use Rattle.rules.specs.Statements.{Row, Decides, row, change_rows, report_rows, refusals_of, RefusalsExactly}
use Rattle.std.proofs.lemmas.Bool.{cond_both, or_parts}
use Rattle.rules.proofs.Cases.{cases}
use Rattle.rules.proofs.Layouts.{layout_passed}
use Rattle.rules.proofs.Decide.{one_test}
use Rattle.rules.proofs.SoundWords.{rounded_rounds, rounds_rounded, sound_words, sound_means, words_fair, words_holes}
use Rattle.rules.proofs.TestWords.{means_last, means_rounds, no_start, no_layout, no_span}
use Rattle.rules.proofs.Suits.{nothing_room, found_room}
use Rattle.rules.proofs.Walk.{floor_of, sound_walk}
use Rattle.rules.proofs.ResizeWords.{no_stretch}
use Rattle.rules.proofs.Passes.{Passes}

-- ---- rows of words against lists of tests

-- each row refuses as its test does, and for what its test means
abbrev Meets : List Row → List Test → Type 0
Meets [] [] = Unit {0}
Meets [] (q ∷ qs) = ⊥
Meets (t ∷ ts) [] = ⊥
Meets (t ∷ ts) (q ∷ qs) = (q.gives ≡ t.gives) × Means (any q.«exactly_if») t.«exactly_if» × Meets ts qs

-- rows that meet the tests decide, and the rows behind them once the tests are passed
decides : (ts us : List Row) (qs : List Test) (o : Outcome) → Meets ts qs → (Passes qs → Decides us o) → Decides (ts ++ us) (unless qs o)
unfolding unless
decides [] us [] o m f = f tt
decides [] us (q ∷ qs) o m f = absurd m
decides (t ∷ ts) us [] o m f = absurd m
decides (t ∷ ts) us (q ∷ qs) o m f = (
  λ e. rw (m.1.1 e) (ap refused m.0),
  λ n.
      cases (any q.«exactly_if»)
      (λ e. absurd (n (m.1.0 e)))
      (λ e. rw e (decides ts us qs o m.2 (λ p. f (e, p)))),
)

-- ---- what is no refusal

extended_passes : (by : ℕ) (h : Heap) (ks : List Hole) → Decides [] (extended by h ks)
unfolding extended gathered grown
extended_passes by h ks =
    cond_both (ltb (h.pending + by) min_size) _ _ (Decides []) (λ e r p. cc) (λ e r p. cc)

-- ---- the rows of the calls

module _ (h : Heap) (m : List ℕ) where
  -- 3, 4 and 5, then the others on a sound heap
  opened_decides : (us : List Row) (qs : List Test) (o : Outcome) → (sound h (holes h m) ≡ true → Decides us (unless qs o))
      → Decides (refusals_of ours list h m ++ us) (unless (opened_tests (length m) h (holes h m) ++ qs) o)
  unfolding unless sound
  opened_decides us qs o f =
      let ks = holes h m in
      rw (one_test NotSound (sound_numbers h) (sound_holes h ks) qs o)
      (decides (refusals_of ours list h m) us
      (test Unopened (refusal3 h) ∷ test OtherLength (refusal4 (length m) h) ∷ test NotSound (not (sound h ks) ∷ []) ∷ []) (unless qs o) (
        refl,
        means_last (Decides-eqb h.bottom.0 0),
        (refl, means_last (Decides-not _ (Decides-eqb (length m) h.len)), (refl, means_last (Decides-not _ (sound_means h ks)), tt)),
      )
      (λ p. f (not-false (sound h ks) (or_parts (not (sound h ks)) false p.1.1.0).0)))

  -- 7: where no hole is found there is no room, and where one is there is
  room_decides : (s align : ℕ) (f : Found) → Power align → sound h (holes h m) ≡ true → find (rounded s) align (holes h m) ≡ f
      → Decides (row (NoRoom (length (holes h m))) ((r : ℕ) → Rounds s r → (x : ℕ) → RoomAt r align (holes h m) x → ⊥) ∷ [])
      (taken (rounded s) align h (holes h m) f)
  unfolding taken
  room_decides s align nothing p e q = (
    λ n. refl,
    λ n.
        absurd
        (n
        (λ r d x t.
        nothing_room (rounded s) align p (holes h m) (λ k i. ((sound_words h (holes h m) e).1.each k i).place) q x
        (rw (rounds_rounded d) at t))),
  )
  room_decides s align (found front k back) p e q = (
    λ n.
        absurd
        (n (rounded s) (rounded_rounds s) (candidate align k.addr).0 (found_room (rounded s) align p (holes h m) front back k q)),
    λ n r e. cc,
  )

  change_decides : (c : Change) → Fits (change c) → sound h (holes h m) ≡ true
      → Decides (change_rows ours c h m) (unless (change_tests c h (holes h m)) (accepted (change c) (length m) h (holes h m)))
  unfolding accepted given refitted
  change_decides (Change.allocate s align) f e =
      decides (row BadLayout (NoLayout s align) ∷ []) (row (NoRoom (length (holes h m))) _ ∷ [])
      (change_tests (Change.allocate s align) h (holes h m)) _
      (refl, no_layout s align f.1, tt)
      (λ p. room_decides s align (find (rounded s) align (holes h m)) (layout_passed s align f.1 p.0).power e refl)
  change_decides (Change.free x s align) f e =
      decides (change_rows ours (Change.free x s align) h m) [] (change_tests (Change.free x s align) h (holes h m)) _ (
        refl,
        no_layout s align f.2,
        (refl, means_rounds (λ r. NoSpan h (holes h m) x.0 r align) s (no_span x (rounded s) h (holes h m) align), tt),
      )
      (λ p r e. cc)
  change_decides (Change.resize x s align n) f e =
      let ks = holes h m in
      let good = sound_words h ks e in
      let walk = sound_walk h (words_fair h good.0) ks (words_holes h ks good.1) in
      decides (change_rows ours (Change.resize x s align n) h m) [] (change_tests (Change.resize x s align n) h ks) _ (
        refl,
        no_layout s align f.2,
        (
          refl,
          no_layout n align f.2,
          (
            refl,
            means_rounds (λ r. NoSpan h ks x.0 r align) s (no_span x (rounded s) h ks align),
            (
              refl,
              means_rounds (λ r. ((q : ℕ) × Rounds n q × NoStretch ks x.0 r q)) s
                  (means_rounds (λ q. NoStretch ks x.0 (rounded s) q) n (no_stretch h (hole x (rounded s)) (floor_of h ks) ks (rounded n) walk)),
              tt,
            ),
          ),
        ),
      )
      (λ p r e. cc)
  change_decides (Change.extend by) f e =
      decides (change_rows ours (Change.extend by) h m) [] (change_tests (Change.extend by) h (holes h m)) _
      (refl, means_last (Decides-ltb (h.base.0 + h.len) (h.top.0 + h.pending + by)), tt)
      (λ p. extended_passes by h (holes h m))

  report_decides : (r : Report) → Fits (report r) → sound h (holes h m) ≡ true
      → Decides (report_rows r) (unless (report_tests r) (accepted (report r) (length m) h (holes h m)))
  unfolding unless accepted
  report_decides Report.list f e = λ r p. cc
  report_decides (Report.room align) f e =
      decides (report_rows (Report.room align)) [] (report_tests (Report.room align)) _ (refl, no_layout 16 align f, tt) (λ p r k. cc)

pub refusals_exactly : RefusalsExactly ours
unfolding outcome decided tests unless accepted
refusals_exactly (opening base named) h m f =
    decides (refusals_of ours (opening base named) h m) [] (tests (opening base named) (length m) h (holes h m)) _
    (refl, means_last (Decides-not _ (Decides-eqb h.bottom.0 0)), (refl, no_start (length m) base named, tt))
    (λ p r e. cc)
refusals_exactly (change c) h m f =
    opened_decides h m (change_rows ours c h m) (change_tests c h (holes h m)) _ (change_decides h m c f)
refusals_exactly (report r) h m f = opened_decides h m (report_rows r) (report_tests r) _ (report_decides h m r f)
