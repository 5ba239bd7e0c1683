-- Heads that a call decides to write, and what its decision comes to. Assumes nothing.
use mathlib.Core.Path.{◌≡◌, refl, ◌∙◌}
use mathlib.Core.Bool.{true, false, cond}
use mathlib.Core.List.{List}
use Prim.Native.Nat.{ℕ}
use lib.ListN.{length}
use Rattle.std.proofs.Common.{Result, Ok, Err, Option, Some, None}
use Rattle.rules.specs.declared.Addr.{Addr}
use Rattle.rules.specs.declared.Place.{Place}
use Rattle.rules.specs.declared.Hole.{Hole}
use Rattle.rules.specs.declared.Heap.{Heap}
use Rattle.rules.specs.declared.Write.{Write}
use Rattle.rules.specs.declared.Writes.{Writes}
use Rattle.rules.specs.declared.Decided.{Decided}
use Rattle.rules.specs.declared.Refusal.{Refusal}
use Rattle.rules.specs.declared.Refusal.TheVariants.{NotSound}
use Rattle.rules.specs.declared.Answer.{Answer}
use Rattle.rules.specs.Sound.{sound_holes, holes}
use Rattle.rules.specs.Calls.{Call, Outcome, refused, changed}
use Rattle.rules.specs.Outcome.{outcome, leaves, after}
use Rattle.rules.specs.Inner.{put, carried, Relinks, Fulfils, sifted}
use Rattle.rules.proofs.Heads.{put_head_length}
use Rattle.rules.proofs.Calls.{sifted_refused}

-- ---- one head

pub put_length : (w : Option Write) (m : List ℕ) → length (put w m) ≡ length m
unfolding put
put_length None m = refl
put_length (Some w) m = put_head_length m w.at w.head

-- ---- what a call decides

module _ (h : Heap) (m : List ℕ) where
  -- a refused call writes nothing
  pub fulfils_refused : (r : Refusal) → Fulfils (leaves h m (refused r)) h m (Err r)
  unfolding leaves carried
  fulfils_refused r = record { heads = tt; is = refl }

  -- a changed list, with a new top, pending and used
  pub fulfils_changed : (a : Answer) (ks : List Hole) (top : Addr) (pending used : ℕ) {first : Place} {ws : Writes}
      → Relinks h.base m ks first ws
      → Fulfils (leaves h m (changed a h ks top pending used)) h m
      (Ok
      (record {
        heap =
            record {
              base = h.base;
              len = h.len;
              bottom = h.bottom;
              top = top;
              first = first;
              pending = pending;
              used = used;
            };
        answer = a;
        heads = ws;
      }))
  unfolding leaves carried
  fulfils_changed a ks top pending used r = record { heads = (r.heads.one, r.heads.two); is = rw (r.first, r.heads.arena) }

  -- an outcome that waits on the rules on the holes: where they are kept, and where one is broken
  module _ (ks : List Hole) (o : Outcome) where
    pub fulfils_sound : {d : Result Decided Refusal} → sound_holes h ks ≡ true → Fulfils (leaves h m o) h m d
        → Fulfils (leaves h m (sifted h ks o)) h m d
    unfolding sifted
    fulfils_sound e p = rw e p

    pub fulfils_broken : sound_holes h ks ≡ false → Fulfils (leaves h m (sifted h ks o)) h m (Err NotSound)
    unfolding sifted
    fulfils_broken e = rw e (fulfils_refused NotSound)

-- ---- and what a call is

module _ (c : Call) (h : Heap) (m : List ℕ) where
  pub fulfils_left : (o : Outcome) {d : Result Decided Refusal} → outcome c h m ≡ o → Fulfils (leaves h m o) h m d → Fulfils (after c h m) h m d
  unfolding after
  fulfils_left o e p = rw e p

  -- a refusal that comes after 5
  pub fulfils_later : (r : Refusal) → outcome c h m ≡ sifted h (holes h m) (refused r)
      → Fulfils (after c h m) h m (Err (cond (sound_holes h (holes h m)) r NotSound))
  fulfils_later r e =
      let x = cond (sound_holes h (holes h m)) r NotSound in
      fulfils_left (refused x) (e ∙ sifted_refused h (holes h m) r) (fulfils_refused h m x)
