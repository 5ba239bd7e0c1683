-- What a caller sees of an accepted call: the words of the new heap, its answer, and heads that hold its holes. Assumes nothing.
use mathlib.Core.Path.{◌≡◌, sym, subst, ap, ◌∙◌}
use mathlib.Core.List.{List, [], ◌∷◌}
use Prim.Native.Nat.{ℕ}
use lib.ListN.{length}
use Rattle.std.proofs.Common.{Ok}
use Rattle.rules.specs.declared.Hole.{Hole}
use Rattle.rules.specs.declared.Heap.{Heap}
use Rattle.rules.specs.declared.Answer.{Answer}
use Rattle.rules.specs.Holes.{put_heads}
use Rattle.rules.specs.Sound.{holes}
use Rattle.rules.specs.Changes.{Change}
use Rattle.rules.specs.Calls.{Call, change, done}
use Rattle.rules.specs.Answers.{answer_numbers}
use Rattle.rules.specs.Refusals.{change_tests, tests}
use Rattle.rules.specs.Outcome.{outcome, leaves, After, after}
use Rattle.rules.specs.Runs.{Fits}
use Rattle.rules.specs.Behaviour.{ours, Good}
use Rattle.rules.specs.InWords.{Sound}
use Rattle.rules.proofs.Passes.{Passes}
use Rattle.rules.proofs.SoundWords.{ruled_words}
use Rattle.rules.proofs.HoldWords.{holes_mean}
use Rattle.rules.proofs.SoundKept.{passed_opened, sound_kept}
use Rattle.rules.proofs.MemoryWords.{memory}
use Rattle.c_face.specs.Face.{heap_of, words_of}
use Rattle.c_face.specs.Statements.{Seen, Meets, Holds, Leaves}
use Rattle.c_face.proofs.Returned.{named_is}
use Rattle.c_face.proofs.Refused.{accepted_passes}

-- what is seen of words and bytes that a call leaves so
abbrev pub seen_of : List ℕ → List ℕ → After → Seen
seen_of ws m a =
    record {
      words = ws;
      bytes = m;
      number = (answer_numbers a.answer).no;
      words_after = words_of a.heap;
      bytes_after = a.arena;
      answer = (answer_numbers a.answer).one ∷ (answer_numbers a.answer).two ∷ [];
    }

abbrev pub done_with : Answer → Heap → List Hole → List ℕ → After
done_with a h ks m = record { answer = Ok a; heap = h; arena = put_heads h.base ks m }

meets_seen : (c : Call) (s : Seen) → Meets c s → s ≡ seen_of s.words s.bytes (after c (heap_of s.words) s.bytes)
meets_seen c s t = rw (← t.shows.0.0, ← t.shows.0.1, ← t.shows.1, ← t.shows.2)

after_done : (c : Call) (h : Heap) (m : List ℕ) (a : Answer) (h' : Heap) (ks : List Hole) → outcome c h m ≡ done a h' ks
    → after c h m ≡ done_with a h' ks m
unfolding after leaves
after_done c h m a h' ks e = rw e

module _ (c : Call) (s : Seen) (t : Meets c s) where
  -- what is said of the words, the answer and the arena that were decided is said of what is seen
  pub by_done : (P : Seen → Type 0) {a : Answer} {h' : Heap} {ks : List Hole} → outcome c (heap_of s.words) s.bytes ≡ done a h' ks
      → P (seen_of s.words s.bytes (done_with a h' ks s.bytes)) → P s
  by_done P {a} {h'} {ks} e p =
      let i = after_done c (heap_of s.words) s.bytes a h' ks e in
      subst P (sym (meets_seen c s t ∙ ap (seen_of s.words s.bytes) i)) p

-- ---- the holes

-- the holes of a good heap, as its words and bytes hold them
pub good_holds : (ws m : List ℕ) → Good ours (heap_of ws) m → Holds ws m (holes (heap_of ws) m)
good_holds ws m g =
    let h = heap_of ws in
    record { heads = (holes_mean h m).1 g.1; sound = λ j n. rw (named_is ws j n) g.1 }

module _ (c : Call) (ws m : List ℕ) (f : Fits c) (a : Answer) (h' : Heap) (ks : List Hole) (e : outcome c (heap_of ws) m ≡ done a h' ks) where
  pub done_leaves : Leaves (seen_of ws m (done_with a h' ks m)) ks
  done_leaves =
      let h = heap_of ws in
      let is = after_done c h m a h' ks e in
      let (told, heap, long, read, others) = memory c h m a h' ks f e in
      let now = put_heads h'.base ks m in
      let read' : holes h' now ≡ ks = rw is at read in
      let sound : Sound h' ks = (sound_kept c h m a h' ks f e).0 in
      let hold = (holes_mean h' now).1 (rw read' sound) in
      record {
        holds = record { heads = rw read' at hold; sound = λ j n. rw (named_is (words_of h') j n) sound };
        long = rw is at long;
        others = rw is at others;
      }

-- ---- an accepted change

module _ (x : Change) (s : Seen) (t : Meets (change x) s) (z : s.number ≡ 0) where
  passed : Passes (tests (change x) (length s.bytes) (heap_of s.words) (holes (heap_of s.words) s.bytes))
  passed = accepted_passes (change x) (heap_of s.words) s.bytes (sym t.shows.0.0 ∙ z)

  -- its heap was good, and passed its own tests
  pub change_good : Good ours (heap_of s.words) s.bytes
      × Passes (change_tests x (heap_of s.words) (holes (heap_of s.words) s.bytes))
  unfolding tests
  change_good =
      let h = heap_of s.words in
      let ks = holes h s.bytes in
      let (st, p) = passed_opened (length s.bytes) h ks (change_tests x h ks) passed in
      ((st.arena, ruled_words h ks st.ruled st.sound), p)
