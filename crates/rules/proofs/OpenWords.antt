-- What open does, in the paper's words, and that the heap it leaves is sound. Assumes nothing.
use mathlib.Core.Path.{◌≡◌, refl}
use mathlib.Core.Bool.{true, false}
use mathlib.Core.List.{[], ◌∷◌}
use mathlib.Core.Logic.{inl}
use Prim.Native.Nat.{ℕ, ◌+◌, ◌-◌, ◌%◌}
use native.Mathlib.Omega.{arith}
use lib.ListN.{length}
use borrow.Author.Tests.{ltb-false, eqb-false, le-leb, eq-eqb}
use Rattle.rules.specs.declared.Addr.{Addr}
use Rattle.rules.specs.Fixed.{grain}
use Rattle.rules.specs.Round.{up_to, down_to}
use Rattle.rules.specs.Tests.{any}
use Rattle.rules.specs.Kinds.{addr}
use Rattle.rules.specs.Holes.{first_of, total}
use Rattle.rules.specs.Sound.{size, hole_rules, lie, rise, leave_before, leave_after, list_rules, sound_holes}
use Rattle.rules.specs.Calls.{left, only_hole, opened, accepted}
use Rattle.rules.specs.Refusals.{refusal1, tests, unless}
use Rattle.rules.specs.Outcome.{decided, outcome}
use Rattle.rules.specs.Behaviour.{ours}
use Rattle.rules.specs.Statements.{OpenDoes}
use Rattle.rules.specs.Inner.{Ruled}
use Rattle.std.proofs.lemmas.Bool.{and_from}
use Rattle.rules.proofs.Cases.{any_each, each_all}
use Rattle.rules.proofs.SoundWords.{left_is}
use Rattle.rules.proofs.Gaps.{words_gap}
use Rattle.rules.proofs.TestWords.{means_fails, no_start}

pub open_does : OpenDoes ours
unfolding outcome decided tests unless accepted opened first_of
open_does h m base named bottom s e n l =
    let is = left_is l in
    let pass : any (refusal1 (length m) (addr base) named) ≡ false =
    means_fails (no_start (length m) (addr base) named) n in
    let rest : left (addr base) named % grain ≡ named - (up_to grain base - base) - down_to grain (left (addr base) named) = omega arith in
    rw (eq-eqb h.bottom.0 0 e, pass, is.0, is.1, ← rest)

-- ---- the heap that it leaves

module _ (len : ℕ) (base : Addr) (named : ℕ) (pass : any (refusal1 len base named) ≡ false) where
  pub opened_ruled : Ruled (opened len base named)
  unfolding opened
  opened_ruled =
      let r = any_each (refusal1 len base named) pass in
      let n = eqb-false base.0 0 r.0 in
      omega (arith, ltb-false, n)

  pub opened_sound : sound_holes (opened len base named) (only_hole base named ∷ []) ≡ true
  unfolding opened sound_holes lie rise leave_before leave_after total
  opened_sound =
      let h = opened len base named in
      let k = only_hole base named in
      let r = any_each (refusal1 len base named) pass in
      each_all (list_rules h (k ∷ [])) (
        and_from _ _ (each_all (hole_rules h k) (omega (arith, ltb-false, le-leb, eq-eqb))) refl,
        (
          refl,
          (
            words_gap h.bottom k.addr (inl refl),
            (words_gap h.top h.top (inl refl), (eq-eqb (total (k ∷ []) + 0) (size h) (omega arith), tt)),
          ),
        ),
      )
