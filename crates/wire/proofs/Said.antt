-- What is said of bytes in two parts is said of them in one. Assumes nothing.
use mathlib.Core.Path.{◌≡◌, refl, sym, ap, ◌∙◌}
use mathlib.Core.List.{List, [], ◌++◌, append_assoc, append-nil}
use Prim.Native.Nat.{ℕ}
use lib.Dec.{eqb}
use lib.ListN.{length}
use Rattle.std.specs.Prelude.{None, Some}
use Rattle.std.specs.declared.option.Option.{Option}
use Rattle.std.specs.Io.KnownBytes.{Appends, Consumes}
use Rattle.std.proofs.lemmas.Bool.{cond_both}
use Rattle.talk.specs.Hearing.{Come, answered, heard, taken}
use Rattle.talk.proofs.Hearing.{heard_taken}
use Rattle.wire.specs.Bounds.{ended, Said, Took, Talked}

appends_none : (o : Option (List ℕ)) → Appends o o []
appends_none None = tt
appends_none (Some xs) = sym (append-nil xs)

appends_both : (o p q : Option (List ℕ)) (xs ys : List ℕ) → Appends o p xs → Appends p q ys → Appends o q (xs ++ ys)
appends_both None p q xs ys a b = tt
appends_both (Some os) None q xs ys a b = elim a [ ]
appends_both (Some os) (Some ps) None xs ys a b = elim b [ ]
appends_both (Some os) (Some ps) (Some qs) xs ys a b = b ∙ ap (λ (zs : List ℕ). zs ++ ys) a ∙ append_assoc os xs ys

pub consumes_none : (o : Option (List ℕ)) → Consumes o o []
consumes_none None = tt
consumes_none (Some xs) = refl

pub consumes_both : (o p q : Option (List ℕ)) (xs ys : List ℕ) → Consumes o p xs → Consumes p q ys → Consumes o q (xs ++ ys)
consumes_both None p q xs ys a b = tt
consumes_both (Some os) None q xs ys a b = elim a [ ]
consumes_both (Some os) (Some ps) None xs ys a b = elim b [ ]
consumes_both (Some os) (Some ps) (Some qs) xs ys a b = a ∙ ap (λ (zs : List ℕ). xs ++ zs) b ∙ sym (append_assoc xs ys qs)

-- no byte
pub said_none : (c : Come) (o : Option (List ℕ)) → c.waits ≡ [] → Said c [] o o c
unfolding heard
said_none c o e =
    record {
      comes = ap (λ (ws : List ℕ). record { heap = c.heap; arena = c.arena; kept = c.kept; waits = ws }) e;
      written = rw e (appends_none o);
    }

-- further bytes
pub said_more : (c₀ c c' : Come) (xs ys : List ℕ) (o p q : Option (List ℕ)) → Said c₀ xs o p c → c' ≡ heard ys c → Appends p q c'.waits
    → Said c₀ (xs ++ ys) o q (taken c')
said_more c₀ c c' xs ys o p q s e w =
    let all = heard_taken xs ys c₀ c c' s.comes e in
    record {
      comes = ap taken (sym all);
      written = rw (ap (λ (d : Come). d.waits) all) (appends_both o p q (heard xs c₀).waits c'.waits s.written w);
    }

-- bytes of the input
pub took_more : (c₀ c c' : Come) (ys : List ℕ) (l l' l'' o p q : Option (List ℕ)) → Took c₀ l l' o p c → Consumes l' l'' ys → Said c ys p q c'
    → Took c₀ l l'' o q c'
took_more c₀ c c' ys l l' l'' o p q t r s =
    record {
      bytes = t.bytes ++ ys;
      read = consumes_both l l' l'' t.bytes ys t.read r;
      said = rw s.comes (said_more c₀ c (heard ys c) t.bytes ys o p q t.said refl s.written);
    }

ended_waits : (c : Come) → (ended c).waits ≡ c.waits ++ (ended (taken c)).waits
ended_waits c =
    cond_both (eqb (length c.kept) 0) c (answered c) (λ (d : Come). d.waits ≡ c.waits ++ (ended (taken c)).waits)
    (λ e. rw e (sym (append-nil c.waits)))
    (λ e. rw e)

-- and its end
pub talked : (c₀ c : Come) (l l' o p q : Option (List ℕ)) → Took c₀ l l' o p c → Appends p q (ended c).waits → Talked c₀ l l' o q
talked c₀ c l l' o p q t w =
    let d = heard t.bytes c₀ in
    record {
      bytes = t.bytes;
      read = t.read;
      written = rw (ended_waits d) (appends_both o p q d.waits (ended (taken d)).waits t.said.written (rw t.said.comes at w));
    }
