-- What an opening comes to, by the tests that it makes. Assumes nothing.
use mathlib.Core.Path.{◌≡◌, sym, ap, ◌∙◌}
use mathlib.Core.Bool.{Bool, true, false}
use mathlib.Core.List.{List, [], ◌∷◌}
use Prim.Native.Nat.{ℕ, ◌≤◌}
use native.Mathlib.Omega.{arith}
use lib.ListN.{length}
use Rattle.std.proofs.Common.{Ok, Err, None}
use Rattle.rules.specs.Fixed.{grain}
use Rattle.rules.specs.Tests.{any}
use Rattle.rules.specs.Round.{Above}
use Rattle.rules.specs.Kinds.{addr, raised, none}
use Rattle.rules.specs.Holes.{first_of, put_heads}
use Rattle.rules.specs.Sound.{size}
use Rattle.rules.specs.Calls.{opening, refused, done, only_hole, opened}
use Rattle.rules.specs.Refusals.{refusal1}
use Rattle.rules.specs.Outcome.{leaves, after}
use Rattle.rules.specs.declared.Addr.{Addr}
use Rattle.rules.specs.declared.Heap.{Heap}
use Rattle.rules.specs.declared.Decided.{Decided}
use Rattle.rules.specs.declared.Refusal.TheVariants.{BadOpening, AlreadyOpened}
use Rattle.rules.specs.declared.Answer.TheVariants.{Opened}
use Rattle.rules.specs.Inner.{put, write, written, carried, Fulfils}
use Rattle.rules.proofs.Calls.{opening_2, opening_1, opening_on}
use Rattle.rules.proofs.Written.{fulfils_refused, fulfils_left}
use Rattle.numbers.proofs.Refused.{may_open}
use Rattle.rules.proofs.Multiples.{above_is}

-- what rounds base up is bottom
pub is_bottom : (base bottom : Addr) → Above grain base.0 bottom.0 → bottom ≡ raised grain base
is_bottom base bottom a = ap addr (above_is (omega arith) a)

-- the new heap's bottom and top lie in this order behind base
pub opened_rises : (len : ℕ) (base : Addr) (named : ℕ) {h : Heap} → h ≡ opened len base named
    → (base.0 ≤ h.bottom.0) × (h.bottom.0 ≤ h.top.0)
unfolding opened
opened_rises len base named e = rw e (omega arith, omega arith)

-- an accepted opening gives back a heap, bottom and size read off it, and has the head of its one hole written
abbrev begun_with : Heap → Decided
begun_with k =
    record {
      heap = k;
      answer = Opened k.bottom (size k);
      heads = record { one = write k.first (size k) none; two = None };
    }

-- that head lies in the arena, and is all that the new heap's list has
begins : (len : ℕ) (base : Addr) (named : ℕ) (h : Heap) (m : List ℕ) {k : Heap}
    → length m ≡ len → any (refusal1 len base named) ≡ false → k ≡ opened len base named
    → Fulfils
    (leaves h m (done (Opened (raised grain base) (only_hole base named).size) (opened len base named) (only_hole base named ∷ [])))
    h m (Ok (begun_with k))
unfolding leaves carried opened first_of put written put_heads
begins len base named h m lent e k =
    let o = may_open len base named e in
    let s : size (opened len base named) ≡ (only_hole base named).size = omega arith in
    rw k (record { heads = (omega (arith, o.room, o.within, lent), tt); is = rw s })

module _ (base : Addr) (named : ℕ) (h : Heap) (m : List ℕ) where
  pub begun_2 : (h.bottom.0 ≡ 0 → ⊥) → Fulfils (after (opening base named) h m) h m (Err AlreadyOpened)
  begun_2 n = fulfils_left (opening base named) h m (refused AlreadyOpened) (opening_2 base named h m n) (fulfils_refused h m AlreadyOpened)

  -- by what is said of refusal 1
  module _ (z : h.bottom.0 ≡ 0) {len : ℕ} (lent : length m ≡ len) {b : Bool} (said : b ≡ any (refusal1 len base named)) where
    pub begun_1 : b ≡ true → Fulfils (after (opening base named) h m) h m (Err BadOpening)
    begun_1 e =
        fulfils_left (opening base named) h m (refused BadOpening)
        (opening_1 base named h m z (rw lent (sym said ∙ e)))
        (fulfils_refused h m BadOpening)

    pub begun : {k : Heap} → b ≡ false → k ≡ opened len base named → Fulfils (after (opening base named) h m) h m (Ok (begun_with k))
    begun e k =
        let no = sym said ∙ e in
        fulfils_left (opening base named) h m _ (opening_on base named h m z (rw lent no))
        (rw lent (begins len base named h m lent no k))
