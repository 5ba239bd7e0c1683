-- A call on a good heap: the tests of 3, 4 and 5 pass, a valid layout passes 6, and the heap becomes what its new holes make it.
-- Assumes nothing.
use mathlib.Core.Path.{◌≡◌, refl, ◌∙◌}
use mathlib.Core.Bool.{true, false}
use mathlib.Core.List.{List}
use Prim.Native.Nat.{ℕ, ◌-◌, ◌≤◌}
use native.Mathlib.Omega.{arith}
use lib.Count.{ones_in}
use lib.ListN.{length}
use borrow.Author.Tests.{eq-eqb, le-ltb}
use Rattle.rules.specs.declared.Addr.{Addr}
use Rattle.rules.specs.declared.Hole.{Hole}
use Rattle.rules.specs.declared.Heap.{Heap}
use Rattle.rules.specs.Fixed.{addr_limit, width}
use Rattle.rules.specs.Tests.{any}
use Rattle.rules.specs.Holes.{first_of}
use Rattle.rules.specs.Sound.{most, sound_holes, holes}
use Rattle.rules.specs.Allocate.{rounded}
use Rattle.rules.specs.Calls.{Call, accepted, renewed}
use Rattle.rules.specs.Refusals.{refusal6, unless}
use Rattle.rules.specs.Outcome.{decided, outcome}
use Rattle.rules.specs.InWords.{Sound}
use Rattle.rules.specs.InWords.{Valid}
use Rattle.rules.specs.Behaviour.{ours, Good}
use Rattle.rules.specs.Statements.{Becomes}
use Rattle.rules.specs.Inner.{Fair, Rises, sifted}
use Rattle.rules.proofs.Powers.{power_one}
use Rattle.rules.proofs.Walk.{sound_count}
use Rattle.rules.proofs.Rises.{sound_rises}
use Rattle.rules.proofs.Decide.{unless_fair, rest, Opens, decided_later}
use Rattle.rules.proofs.SoundWords.{rounds_rounded, words_fair, words_numbers, words_holes}

pub good_fair : (h : Heap) (m : List ℕ) → Good ours h m → Fair h
good_fair h m g = words_fair h g.1.0

pub good_holes : (h : Heap) (m : List ℕ) → Good ours h m → sound_holes h (holes h m) ≡ true
good_holes h m g = words_holes h (holes h m) g.1.1

pub good_rises : (h : Heap) (m : List ℕ) → Good ours h m → Rises h.bottom.0 h.top.0 (holes h m)
good_rises h m g = sound_rises h (good_fair h m g) (holes h m) (good_holes h m g)

pub good_count : (h : Heap) (m : List ℕ) → Good ours h m → length (holes h m) ≤ most h
good_count h m g = sound_count h (good_fair h m g) (holes h m) (good_holes h m g)

-- ---- a call

-- on a sound heap only the tests behind 5 are left
pub sound_decided : (c : Call) (len : ℕ) (h : Heap) (ks : List Hole) → Opens c ≡ false → len ≡ h.len → Sound h ks
    → decided c len h ks ≡ unless (rest c h ks) (accepted c len h ks)
unfolding sifted
sound_decided c len h ks later n s =
    let f = words_fair h s.0 in
    decided_later c len h ks later
    ∙ unless_fair len h ks (rest c h ks) (accepted c len h ks) (λ e. omega arith) n (words_numbers h s.0)
    ∙ rw (words_holes h ks s.1)

pub good_outcome : (c : Call) (h : Heap) (m : List ℕ) → Opens c ≡ false → Good ours h m
    → outcome c h m ≡ unless (rest c h (holes h m)) (accepted c (length m) h (holes h m))
unfolding outcome
good_outcome c h m later g = sound_decided c (length m) h (holes h m) later g.0 g.1

pub valid_passes : (s align r : ℕ) → Valid s align r → any (refusal6 s align) ≡ false
valid_passes s align r v =
    let e : r ≡ rounded s = rounds_rounded v.rounds in
    rw (
      eq-eqb (ones_in width align) 1 (power_one width v.power v.fits),
      le-ltb (addr_limit - align) (rounded s) (omega (arith, v.room)),
    )

-- its first place is that of the first of holes that rise behind base
pub renewed_becomes : (h : Heap) (ks : List Hole) (top : Addr) (pending used lo hi : ℕ) → h.base.0 ≤ lo → Rises lo hi ks
    → Becomes h ks top.0 pending used (renewed h ks top pending used)
unfolding first_of
renewed_becomes h ks top pending used lo hi l s =
    record {
      base = refl;
      len = refl;
      bottom = refl;
      new_top = refl;
      new_pending = refl;
      new_used = refl;
      none = λ e. rw e;
      first = λ k back e. let t = rw e at s in rw e (omega arith);
    }
