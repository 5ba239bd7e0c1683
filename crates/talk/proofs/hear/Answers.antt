-- `talk::hear` meets its contract. Assumes nothing.
use mathlib.Core.Logic.{◌⊎◌, inl, inr}
use mathlib.Core.List.{List, [], ◌∷◌, ◌++◌, append_assoc, append-nil}
use mathlib.Core.Path.{refl, sym, ap, ◌∙◌}
use Prim.Native.Nat.{ℕ, ◌≤◌, ◌<◌}
use lib.ListN.{length, length-append}
use native.Mathlib.Omega.{arith}
use Rattle.lines.specs.Wire.{longest}
use Rattle.talk.specs.Hearing.{lf, line_room, answers_room, Come, answered, heard}
use Rattle.talk.specs.Transcript.{at}
use Rattle.talk.proofs.Hearing.{cut_next, heard_line, heard_next, heard_part}
use Rattle.talk.proofs.hear.Goals as goal

abbrev kept_of : Come → List ℕ
kept_of c = c.kept

pub loop-rest-init : goal.loop-rest-init
unfolding heard
loop-rest-init c = record { front = []; cut = refl; comes = refl; ends = inl c.requires }

-- a line and its LF
pub loop-rest-preserved : goal.loop-rest-preserved
loop-rest-preserved c =
    let s = c.loop-rest in
    let i = s.invariant in
    let line = c.in-Some.line.now in
    let before = at s.heap s.arena s.kept.items s.waits.items in
    let kept = c.keep-in-loop-rest.ensures in
    let all = c.answer.ensures.answered ∙ ap (λ (k : List ℕ). answered (at s.heap s.arena k s.waits.items)) kept.keeps
    ∙ sym (heard_line line before c.in-Some.ensures.0 kept.had) in record {
      front = i.front ++ (line ++ (lf ∷ []));
      cut = cut_next _ i.front (line ++ (lf ∷ [])) _ _ i.cut (c.in-Some.ensures.1 ∙ sym (append_assoc line (lf ∷ []) _));
      comes = heard_next i.front (line ++ (lf ∷ [])) _ before _ i.comes all;
      ends =
          inr (simp (length-append, length-append) (omega arith), rw (ap kept_of c.answer.ensures.answered) (omega arith), c.answer.ensures.fits);
    }

-- bytes in which no line ends
pub returns-in_default : goal.returns-in_default
returns-in_default c =
    let s = c.loop-rest in
    let i = s.invariant in
    let rest = s.rest.now in
    let before = at s.heap s.arena s.kept.items s.waits.items in
    let all = ap (λ (k : List ℕ). at s.heap s.arena k s.waits.items) c.keep.ensures.keeps ∙ sym (heard_part rest before c.in_default.ensures c.keep.ensures.had) in record {
      front = i.front ++ rest;
      cut = i.cut ∙ sym (append-nil (i.front ++ rest));
      comes = heard_next i.front rest _ before _ i.comes all;
      kept = c.keep.ensures.has;
      waits = omega (arith, c.loop-rest-test.true, c.len.ensures.value);
      stops = inl refl;
    }

-- no room for one more answer
pub returns : goal.returns
returns c =
    let s = c.loop-rest in
    let i = s.invariant in
    let full : longest < length s.waits.items = omega (arith, c.loop-rest-test.false, c.len.ensures.value) in
    let heard_one : (0 < length i.front) × (length s.kept.items ≤ line_room) × (length s.waits.items ≤ answers_room) = one i.ends full in record {
      front = i.front;
      cut = i.cut;
      comes = i.comes;
      kept = heard_one.1;
      waits = heard_one.2;
      stops = inr (heard_one.0, full);
    }
  where
    one : {A : Type 0} {w : ℕ} → (w ≤ longest) ⊎ A → longest < w → A
    one (inl l) h = absurd (omega arith)
    one (inr a) h = a
