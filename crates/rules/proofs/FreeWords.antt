-- What free and extend do, in the paper's words. Assumes nothing.
use mathlib.Core.Path.{◌≡◌, refl, ◌∙◌}
use mathlib.Core.Bool.{true}
use mathlib.Core.List.{List}
use mathlib.Core.Logic.{inl, inr}
use Prim.Native.Nat.{ℕ, ◌+◌, ◌-◌, ◌%◌, ◌≤◌}
use native.Mathlib.Omega.{arith}
use borrow.Author.Tests.{lt-ltb, le-ltb}
use Rattle.rules.specs.declared.Addr.{Addr}
use Rattle.rules.specs.declared.Hole.{Hole}
use Rattle.rules.specs.declared.Heap.{Heap}
use Rattle.rules.specs.Fixed.{min_size, grain}
use Rattle.rules.specs.Round.{down_to}
use Rattle.rules.specs.Kinds.{plus}
use Rattle.rules.specs.Holes.{hole}
use Rattle.rules.specs.Sound.{sound_holes, holes}
use Rattle.rules.specs.Allocate.{rounded}
use Rattle.rules.specs.Free.{freed}
use Rattle.rules.specs.Calls.{free, extend, renewed, given, grown, gathered, extended, accepted}
use Rattle.rules.specs.Refusals.{unless}
use Rattle.rules.specs.Behaviour.{ours}
use Rattle.rules.specs.Statements.{Joined, FreeDoes, ExtendGathers, ExtendGrows}
use Rattle.rules.specs.Inner.{Ruled}
use Rattle.rules.proofs.Multiples.{below_is}
use Rattle.rules.proofs.Powers.{power_pos, grain_power}
use Rattle.rules.proofs.Rises.{sound_rises}
use Rattle.rules.proofs.SoundWords.{rounds_rounded, words_ruled, ruled_words}
use Rattle.rules.proofs.TestWords.{means_fails, no_span}
use Rattle.rules.proofs.Good.{good_fair, good_holes, good_rises, good_outcome, valid_passes, renewed_becomes}
use Rattle.rules.proofs.FreeKept.{renewed_ruled, free_room, free_sound, grow_ruled, grow_sound}
use Rattle.rules.proofs.Vacancy.{freed_vacates}

-- a sound heap with a span among its holes
freed_joined : (h : Heap) (ks : List Hole) (g : Hole) (top : Addr) (pending used : ℕ)
    → Ruled (renewed h (freed g ks) top pending used)
    → sound_holes (renewed h (freed g ks) top pending used) (freed g ks) ≡ true
    → Joined h ks g.addr.0 g.size top.0 pending used (renewed h (freed g ks) top pending used) (freed g ks)
freed_joined h ks g top pending used f e =
    let h' = renewed h (freed g ks) top pending used in
    record {
      vacant = λ y v. (freed_vacates g ks y).0 v;
      stays = λ y v. (freed_vacates g ks y).1 (inl v);
      becomes_free = λ y w. (freed_vacates g ks y).1 (inr w);
      sound = ruled_words h' (freed g ks) f e;
      becomes =
          renewed_becomes h (freed g ks) top pending used h.bottom.0 top.0 f.fair.bottom (sound_rises h' f.fair (freed g ks) e);
    }

-- ---- free

pub free_does : FreeDoes ours
unfolding unless accepted given
free_does h m x s align r g v n =
    let ks = holes h m in
    let f = good_fair h m g in
    let e = good_holes h m g in
    let is : r ≡ rounded s = rounds_rounded v.rounds in
    let pass = means_fails (no_span x r h ks align) n in
    let new = freed (hole x r) ks in (
      renewed h new h.top h.pending (h.used - r),
      new,
      good_outcome (free x s align) h m refl g ∙ rw (valid_passes s align r v, ← is, pass),
      free_room h f ks (hole x r) align pass e,
      freed_joined h ks (hole x r) h.top h.pending (h.used - r) (renewed_ruled h new (h.used - r) (words_ruled h g.1.0))
          (free_sound h f ks (hole x r) align pass e v.rounds.multiple v.rounds.sixteen),
    )

-- ---- extend

pub extend_gathers : ExtendGathers ours
unfolding unless accepted extended gathered
extend_gathers h m by g l small =
    let ks = holes h m in (
      renewed h ks h.top (h.pending + by) h.used,
      good_outcome (extend by) h m refl g
          ∙ rw (le-ltb (h.base.0 + h.len) (h.top.0 + h.pending + by) l, lt-ltb (h.pending + by) min_size small),
      renewed_becomes h ks h.top (h.pending + by) h.used h.bottom.0 h.top.0 (good_fair h m g).bottom
          (good_rises h m g),
    )

pub extend_grows : ExtendGrows ours
unfolding unless accepted extended grown
extend_grows h m by s g l large below =
    let ks = holes h m in
    let f = words_ruled h g.1.0 in
    let e = good_holes h m g in
    let new = freed (hole h.top s) ks in
    let sum = h.pending + by in
    let is : s ≡ down_to grain sum = below_is (power_pos grain_power) below in
    let rest : sum % grain ≡ sum - s = omega arith in
    let size : h.top.0 - h.bottom.0 + s ≡ h.top.0 + s - h.bottom.0 = omega arith in
    let few : sum - s ≤ 15 = omega arith in
    let s16 : min_size ≤ s = omega (arith, below.multiple) in
    let fits : h.top.0 + s + (sum - s) ≤ h.base.0 + h.len = omega (arith, below.below) in (
      renewed h new (plus h.top s) (sum - s) h.used,
      new,
      good_outcome (extend by) h m refl g
          ∙ rw (le-ltb (h.base.0 + h.len) (h.top.0 + h.pending + by) l, le-ltb sum min_size large, ← is, rest, size),
      freed_joined h ks (hole h.top s) (plus h.top s) (sum - s) h.used
          (grow_ruled h f ks e (sum - s) few s below.multiple s16 fits)
          (grow_sound h f ks e (sum - s) few s below.multiple s16 fits),
    )
