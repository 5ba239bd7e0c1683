-- The used hole in the paper's words: a block lies at the candidate of a hole that suits, and none lies below the first that is found.
-- Assumes nothing.
use mathlib.Core.Path.{◌≡◌, refl}
use mathlib.Core.Bool.{true}
use mathlib.Core.List.Memᴰ
use mathlib.Core.List.{List, [], ◌∷◌, Memᴰ}
use mathlib.Core.Logic.{inl, inr, ⊎_elim}
use Prim.Native.Nat.{ℕ, ◌+◌, ◌%◌, ◌≤◌, ◌<◌}
use native.Mathlib.Omega.{arith}
use borrow.Author.Tests.{eqb-true, eqb-false, le-leb}
use Rattle.rules.specs.declared.Addr.{Addr}
use Rattle.rules.specs.declared.Hole.{Hole}
use Rattle.rules.specs.Fixed.{min_size, grain}
use Rattle.rules.specs.Round.{Power}
use Rattle.rules.specs.Kinds.{plus, multiple_of, raised}
use Rattle.rules.specs.Holes.{end}
use Rattle.rules.specs.Allocate.{candidate, suits, Found, nothing, found, later, find}
use Rattle.rules.specs.InWords.{Gap, end_of, Lies, RoomAt}
use Rattle.rules.specs.Inner.{Rises}
use Rattle.std.proofs.lemmas.Bool.{and_from, cond_both}
use Rattle.rules.proofs.Cases.{by_eq, apart, some_cases}
use Rattle.rules.proofs.Multiples.{multiples_apart, multiple_trans, up_is}
use Rattle.rules.proofs.Powers.{power_pos, eight_or_more}
use Rattle.rules.proofs.Gaps.{words_gap, gap_le}
use Rattle.rules.proofs.Used.{find_splits, candidate_gap, candidate_low, suits_fits, suits_gap}

-- ---- the candidate

pub candidate_multiple : (align : ℕ) (a : Addr) → 0 < align → (candidate align a).0 % align ≡ 0
unfolding candidate
candidate_multiple align a pos =
    cond_both (multiple_of align a) a (raised align (plus a min_size)) (λ (c : Addr). c.0 % align ≡ 0)
    (λ e. eqb-true (a.0 % align) 0 e)
    (λ e. (up_is align (a.0 + min_size) pos).multiple)

-- a power of two that does not divide some multiple of 8 is itself a multiple of 8, and at least 16
large : (align a : ℕ) → Power align → a % grain ≡ 0 → (a % align ≡ 0 → ⊥) → (16 ≤ align) × (align % 8 ≡ 0)
large align a p e8 n =
    ⊎_elim
    (λ (d : 8 % align ≡ 0). absurd (n (multiple_trans align 8 a e8 d)))
    (λ (b : (16 ≤ align) × (align % 8 ≡ 0)). b)
    (eight_or_more p)

pub candidate_eight : (align : ℕ) (a : Addr) → Power align → a.0 % grain ≡ 0 → (candidate align a).0 % grain ≡ 0
unfolding candidate
candidate_eight align a p e8 =
    cond_both (multiple_of align a) a (raised align (plus a min_size)) (λ (c : Addr). c.0 % grain ≡ 0)
    (λ e. e8)
    (λ e.
    multiple_trans grain align (raised align (plus a min_size)).0
    (up_is align (a.0 + min_size) (power_pos p)).multiple
    (large align a.0 p e8 (eqb-false (a.0 % align) 0 e)).1)

multiples_gap : (align c x : ℕ) → 16 ≤ align → c % align ≡ 0 → x % align ≡ 0 → c ≤ x → Gap c x
multiples_gap align c x big ec ex l =
    by_eq c x inl (λ n. let d : c < x = omega (arith, n) in inr (omega (arith, multiples_apart align c x ec ex d)))

-- of the multiples that leave 0 or at least 16 bytes in front the candidate is the lowest, and no other is near it
module _ (align : ℕ) (a : Addr) (x : ℕ) (p : Power align) (e8 : a.0 % grain ≡ 0) (ex : x % align ≡ 0) where
  raised_lowest : (a.0 % align ≡ 0 → ⊥) → Gap a.0 x → Gap (raised align (plus a min_size)).0 x
  raised_lowest n (inl e) = absurd (n (rw e ex))
  raised_lowest n (inr l) =
      let up = up_is align (a.0 + min_size) (power_pos p) in
      multiples_gap align (raised align (plus a min_size)).0 x (large align a.0 p e8 n).0 up.multiple ex
      (up.least x ex l)

  candidate_lowest : Gap a.0 x → Gap (candidate align a).0 x
  unfolding candidate
  candidate_lowest g =
      cond_both (multiple_of align a) a (raised align (plus a min_size)) (λ (c : Addr). Gap c.0 x)
      (λ e. g)
      (λ e. raised_lowest (eqb-false (a.0 % align) 0 e) g)

-- ---- one hole

module _ (r align : ℕ) (k : Hole) where
  pub suits_lies : Power align → suits r align k ≡ true → Lies r align k (candidate align k.addr).0
  suits_lies p e =
      let pos = power_pos p in
      record {
        multiple = candidate_multiple align k.addr pos;
        from = candidate_low align k.addr pos;
        to = suits_fits r align k e;
        front = candidate_gap align k.addr pos;
        back = suits_gap r align k e;
      }

  -- a block that lies lower, or as low, leaves as much behind it
  lower : (c x : ℕ) → Gap c x → x + r ≤ end_of k → Gap (x + r) (end_of k) → Gap (c + r) (end_of k)
  lower c x (inl e) to back = rw e back
  lower c x (inr l) to back = inr (omega arith)

  pub lies_suits : {x : ℕ} → Power align → k.addr.0 % grain ≡ 0 → Lies r align k x
      → (suits r align k ≡ true) × ((candidate align k.addr).0 ≤ x)
  unfolding suits
  lies_suits {x} p e8 lies =
      let c = candidate align k.addr in
      let near = candidate_lowest align k.addr x p e8 lies.multiple lies.front in
      let low = gap_le c.0 x near in
      let to = lies.to in (
        and_from _ _ (le-leb (c.0 + r) (end k).0 (omega arith))
            (words_gap (plus c r) (end k) (lower c.0 x near to lies.back)),
        low,
      )

-- ---- a list of holes

-- each lies at a multiple of 8
abbrev pub Placed : List Hole → Type 0
Placed ks = (k : Hole) → Memᴰ k ks → k.addr.0 % grain ≡ 0

rises_member : (lo hi : ℕ) (ks : List Hole) (k : Hole) → Rises lo hi ks → Memᴰ k ks → lo ≤ k.addr.0
rises_member lo hi [] k s m = absurd (Memᴰ.not-nil m)
rises_member lo hi (j ∷ js) k s m =
    ⊎_elim
    (λ (e : k ≡ j). rw e s.0)
    (λ (t : Memᴰ k js). omega (arith, rises_member (end j).0 hi js k s.2 t))
    (Memᴰ.cases_cons m)

pub by_found {ℓ} : {X : Type ℓ} (f : Found) → (f ≡ nothing → X)
    → ((front : List Hole) (k : Hole) (back : List Hole) → f ≡ found front k back → X) → X
by_found nothing a b = a refl
by_found (found front k back) a b = b front k back refl

module _ (r align : ℕ) (p : Power align) where
  -- where no hole is found there is no room; of holes that rise, else, none has room below the candidate of the one that is found
  abbrev Lowest : List Hole → Found → Type 0
  Lowest ks nothing = (x : ℕ) → RoomAt r align ks x → ⊥
  Lowest ks (found front k back) =
      (lo hi : ℕ) → Rises lo hi ks → (x : ℕ) → RoomAt r align ks x → (candidate align k.addr).0 ≤ x

  lowest_later : (k : Hole) (ks : List Hole) (f : Found) → ((x : ℕ) → Lies r align k x → ⊥) → Lowest ks f → Lowest (k ∷ ks) (later k f)
  unfolding later
  lowest_later k ks nothing n low = λ x m. some_cases (λ j. Lies r align j x) m (n x) (low x)
  lowest_later k ks (found front j back) n low =
      λ lo hi s x m. some_cases (λ j. Lies r align j x) m (λ l. absurd (n x l)) (low (end k).0 hi s.2 x)

  find_lowest : (ks : List Hole) → Placed ks → Lowest ks (find r align ks)
  unfolding find
  find_lowest [] g = λ x m. Memᴰ.not-nil m.1
  find_lowest (k ∷ ks) g =
      let e8 = g k (Memᴰ.head refl) in
      cond_both (suits r align k) (found [] k ks) (later k (find r align ks)) (Lowest (k ∷ ks))
      (λ e lo hi s x m.
      some_cases (λ j. Lies r align j x) m
      (λ l. (lies_suits r align k p e8 l).1)
      (λ t. omega (arith, suits_fits r align k e, rises_member (end k).0 hi ks t.0 s.2 t.1, t.2.from)))
      (λ e.
      lowest_later k ks (find r align ks)
      (λ x l. apart (lies_suits r align k p e8 l).0 e)
      (find_lowest ks (λ j t. g j (Memᴰ.tail t))))

  module _ (ks : List Hole) where
    pub nothing_room : Placed ks → find r align ks ≡ nothing → (x : ℕ) → RoomAt r align ks x → ⊥
    nothing_room g e = rw e at (find_lowest ks g)

    module _ (front back : List Hole) (k : Hole) (e : find r align ks ≡ found front k back) where
      pub found_lies : Lies r align k (candidate align k.addr).0
      found_lies = suits_lies r align k p (find_splits r align ks front back k e).1

      pub found_room : RoomAt r align ks (candidate align k.addr).0
      found_room =
          (k, rw (find_splits r align ks front back k e).0 (Memᴰ.append_right front (Memᴰ.head refl)), found_lies)

      pub found_lowest : (lo hi x : ℕ) → Placed ks → Rises lo hi ks → RoomAt r align ks x → (candidate align k.addr).0 ≤ x
      found_lowest lo hi x g s m = let low = rw e at (find_lowest ks g) in low lo hi s x m

    -- where there is no room no hole is found
    pub room_nothing : ((x : ℕ) → RoomAt r align ks x → ⊥) → find r align ks ≡ nothing
    room_nothing n =
        by_found (find r align ks)
        (λ e. e)
        (λ front k back e. absurd (n (candidate align k.addr).0 (found_room front back k e)))
