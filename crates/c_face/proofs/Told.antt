-- What an accepted list tells and leaves, in words of the caller. Assumes nothing.
use mathlib.Core.Path.{◌≡◌, sym, ap, ◌∙◌}
use mathlib.Core.List.{List}
use Prim.Native.Nat.{ℕ}
use native.Mathlib.Omega.{arith}
use lib.ListN.{length, get_or}
use Rattle.rules.specs.Sound.{holes}
use Rattle.rules.specs.Changes.{Report}
use Rattle.rules.specs.Calls.{list}
use Rattle.rules.specs.Answers.{answer_numbers}
use Rattle.rules.specs.Refusals.{report_tests, tests}
use Rattle.rules.specs.Outcome.{after}
use Rattle.rules.specs.Behaviour.{ours, Good}
use Rattle.rules.proofs.Calls.{answer_told}
use Rattle.rules.proofs.SoundWords.{ruled_words}
use Rattle.rules.proofs.SoundKept.{passed_opened}
use Rattle.rules.proofs.Reports.{list_does}
use Rattle.c_face.specs.Face.{heap_of}
use Rattle.c_face.specs.Statements.{ListLeaves}
use Rattle.c_face.proofs.Refused.{number_of, accepted_passes}
use Rattle.c_face.proofs.Seen.{good_holds}

-- the heap of an accepted list was good
list_good : (ws m : List ℕ) → number_of (after list (heap_of ws) m).answer ≡ 0 → Good ours (heap_of ws) m
unfolding tests
list_good ws m z =
    let h = heap_of ws in
    let ks = holes h m in
    let (st, p) = passed_opened (length m) h ks (report_tests Report.list) (accepted_passes list h m z) in
    (st.arena, ruled_words h ks st.ruled st.sound)

pub list_leaves : ListLeaves
unfolding answer_numbers
list_leaves ws m before left number answer t z =
    let h = heap_of ws in
    let ks = holes h m in
    let g = list_good ws m (sym t.0.0 ∙ z) in
    let (e, addrs, sizes) = list_does h m before g in
    let told = rw (answer_told list h m _ ks e) at t.0.1 in
    record {
      holes = ks;
      held = good_holds ws m g;
      count = ap (λ (two : List ℕ). get_or two 0 0) told;
      bytes = rw told (omega (arith, g.1.1.sums));
      addrs = rw t.1 addrs;
      sizes = rw t.1 sizes;
    }
