-- What room and list report of a good heap: the largest grant and how many holes there are, and the holes in the lent rows. Assumes
-- nothing.
use mathlib.Core.Path.{◌≡◌, refl, sym, ap, ◌∙◌}
use mathlib.Core.List.Memᴰ
use mathlib.Core.List.{List, [], ◌∷◌, ◌++◌, map, map-append, Memᴰ}
use mathlib.Core.Logic.{inl, ⊎_elim}
use Prim.Native.Nat.{ℕ, zero, suc, ◌+◌, ◌-◌, ◌%◌, ◌≤◌, ◌<◌, min}
use native.Mathlib.Omega.{arith}
use native.Mathlib.Nat.{mod-eq_of_lt}
use lib.ListN.{length, get_or, take, length-take, length-map, length-append}
use lib.Seq.{get_or-take, get_or_at}
use borrow.Author.Tests.{leb-true, leb-false}
use Rattle.rules.specs.declared.Hole.{Hole}
use Rattle.rules.specs.declared.Heap.{Heap}
use Rattle.rules.specs.declared.Refusal.TheVariants.{NoRoom}
use Rattle.rules.specs.Fixed.{min_size, grain}
use Rattle.rules.specs.Round.{Power}
use Rattle.rules.specs.Kinds.{plus, not_after}
use Rattle.rules.specs.Holes.{end}
use Rattle.rules.specs.Sound.{holes}
use Rattle.rules.specs.Allocate.{candidate, grant_of, largest_grant}
use Rattle.rules.specs.Calls.{allocate, list, room, refused, accepted}
use Rattle.rules.specs.Refusals.{unless}
use Rattle.rules.specs.Outcome.{outcome, Rows, over, in_rows, leaves_rows, rows_after}
use Rattle.rules.specs.InWords.{end_of, Rounds, Valid, Lies}
use Rattle.rules.specs.Behaviour.{ours, Good}
use Rattle.rules.specs.Statements.{Granted, RoomDoes, RowAt, ListDoes}
use Rattle.rules.proofs.Cases.{by_le, by_test, Some}
use Rattle.rules.proofs.Multiples.{multiples_apart}
use Rattle.rules.proofs.Powers.{power_pos}
use Rattle.rules.proofs.Used.{candidate_gap, candidate_low}
use Rattle.rules.proofs.Suits.{candidate_multiple, candidate_eight, lies_suits}
use Rattle.rules.proofs.Good.{good_outcome, valid_passes}
use Rattle.rules.proofs.Lowest.{demand2}

-- ---- what a hole has room for

module _ (align : ℕ) (k : Hole) where
  abbrev start : ℕ
  start = (candidate align k.addr).0

  by_grant {ℓ} : (P : ℕ → Type ℓ) → (start + 16 ≤ end_of k → P (end_of k - start)) → (end_of k < start + 16 → P 0) → P (grant_of align k)
  unfolding grant_of
  by_grant P f g =
      by_test P (not_after (plus (candidate align k.addr) min_size) (end k)) _ _
      (λ e. f (leb-true _ _ e)) (λ e. g (leb-false _ _ e))

  -- no more than that lies in it
  grant_most : Power align → k.addr.0 % grain ≡ 0 → {r x : ℕ} → 16 ≤ r → Lies r align k x → r ≤ grant_of align k
  grant_most p e8 {r} least lies =
      let low = (lies_suits r align k p e8 lies).1 in
      by_grant (λ n. r ≤ n) (λ l. omega (arith, lies.to)) (λ l. absurd (omega (arith, lies.to)))

  -- and that does, if it is not 0
  grant_lies : Power align → (grant_of align k ≡ 0 → ⊥) → Lies (grant_of align k) align k start
  grant_lies p =
      let pos = power_pos p in
      by_grant (λ n. (n ≡ 0 → ⊥) → Lies n align k start)
      (λ l n.
      record {
        multiple = candidate_multiple align k.addr pos;
        from = candidate_low align k.addr pos;
        to = omega arith;
        front = candidate_gap align k.addr pos;
        back = inl (omega arith);
      })
      (λ l n. absurd (n refl))

  -- it is a rounded size
  grant_rounds : Power align → k.addr.0 % grain ≡ 0 → k.size % grain ≡ 0 → (grant_of align k ≡ 0 → ⊥)
      → Rounds (grant_of align k) (grant_of align k)
  grant_rounds p e8 s8 =
      let c8 = candidate_eight align k.addr p e8 in
      by_grant (λ n. (n ≡ 0 → ⊥) → Rounds n n)
      (λ l n. record { multiple = omega (arith, c8); covers = omega arith; sixteen = omega arith; least = λ y m covers g. covers })
      (λ l n. absurd (n refl))

-- ---- what the holes have room for

largest_most : (align : ℕ) (ks : List Hole) (k : Hole) → Memᴰ k ks → grant_of align k ≤ largest_grant align ks
unfolding largest_grant
largest_most align [] k m = absurd (Memᴰ.not-nil m)
largest_most align (j ∷ ks) k m =
    ⊎_elim
    (λ (e : k ≡ j). rw e (omega arith))
    (λ (t : Memᴰ k ks). omega (arith, largest_most align ks k t))
    (Memᴰ.cases_cons m)

largest_one : (align : ℕ) (ks : List Hole) → (largest_grant align ks ≡ 0 → ⊥) → Some (λ k. grant_of align k ≡ largest_grant align ks) ks
unfolding largest_grant
largest_one align [] n = absurd (n refl)
largest_one align (k ∷ ks) n =
    by_le (largest_grant align ks) (grant_of align k)
    (λ l. (k, Memᴰ.head refl, omega arith))
    (λ l. let t = largest_one align ks (λ z. omega (arith, z)) in (t.0, Memᴰ.tail t.1, omega (arith, t.2)))

-- ---- of a good heap

module _ (h : Heap) (m : List ℕ) (align : ℕ) (g : Good ours h m) (v : Valid 16 align 16) where
  abbrev most : ℕ
  most = largest_grant align (holes h m)

  above : (s r : ℕ) → Valid s align r → most < r → outcome (allocate s align) h m ≡ refused (NoRoom (length (holes h m)))
  above s r w l =
      (demand2 h m s align r g w).1
      (λ x (k, i, lies).
      omega (
        arith,
        largest_most align (holes h m) k i,
        grant_most align k w.power (g.1.1.each k i).place w.rounds.sixteen lies,
      ))

  -- a block that ends where a hole does lies below 2^63, and so does its alignment
  some : (most ≡ 0 → ⊥) → Valid most align most × Granted most align h (holes h m) (outcome (allocate most align) h m)
  some n =
      let (k, i, e) = largest_one align (holes h m) n in
      let s = g.1.1.each k i in
      let p = v.power in
      let lies : Lies most align k (start align k) = rw e at (grant_lies align k p (λ z. n (sym e ∙ z))) in
      let far = multiples_apart align 0 (start align k) (mod-eq_of_lt (power_pos p)) lies.multiple (omega (arith, lies.from, s.from, g.1.0.base, g.1.0.bottom.above)) in
      let valid : Valid most align most =
      record {
        fits = v.fits;
        power = p;
        rounds = rw e at (grant_rounds align k p s.place s.eight (λ z. n (sym e ∙ z)));
        room = omega (arith, far, lies.to, s.to, g.1.0.fits, g.1.0.low);
      } in
      (valid, (demand2 h m most align most g valid).0 (start align k, (k, i, lies)))

pub room_does : RoomDoes ours
unfolding accepted unless
room_does h m align g v = (
  largest_grant align (holes h m),
  record {
    none = λ z s r w. above h m align g v s r w (omega (arith, z, w.rounds.sixteen));
    some = some h m align g v;
    above = above h m align g v;
  },
  good_outcome (room align) h m refl g ∙ rw (valid_passes 16 align 16 v),
)

-- ---- numbers over the first of a row

pub over_length : (xs row : List ℕ) → length (over xs row) ≡ length row
unfolding over
over_length [] row = refl
over_length (x ∷ xs) [] = refl
over_length (x ∷ xs) (y ∷ ys) = ap suc (over_length xs ys)

over_in : (xs row : List ℕ) (i : ℕ) → i < length xs → i < length row → get_or (over xs row) i 0 ≡ get_or xs i 0
unfolding over
over_in [] row i l n = absurd (omega arith)
over_in (x ∷ xs) [] i l n = absurd (omega arith)
over_in (x ∷ xs) (y ∷ ys) zero l n = refl
over_in (x ∷ xs) (y ∷ ys) (suc i) l n = over_in xs ys i (omega arith) (omega arith)

over_out : (xs row : List ℕ) (i : ℕ) → length xs ≤ i → get_or (over xs row) i 0 ≡ get_or row i 0
unfolding over
over_out [] row i l = refl
over_out (x ∷ xs) [] i l = refl
over_out (x ∷ xs) (y ∷ ys) zero l = absurd (omega arith)
over_out (x ∷ xs) (y ∷ ys) (suc i) l = over_out xs ys i (omega arith)

-- ---- the rows of list

module _ (f : Hole → ℕ) where
  -- one of the holes, by how many stand before it
  at_hole : (front back : List Hole) (k : Hole) → get_or (map f (front ++ (k ∷ back))) (length front) 0 ≡ f k
  at_hole front back k =
      rw (map-append f front (k ∷ back)) (get_or_at (map f front) (f k) (map f back) 0 (length front) (length-map front f))

  module _ (ks : List Hole) (n : ℕ) (row : List ℕ) where
    abbrev listed : List ℕ
    listed = over (take n (map f ks)) row

    taken_length : length (take n (map f ks)) ≡ min n (length ks)
    taken_length = length-take n (map f ks) ∙ ap (min n) (length-map ks f)

    listed_in : (front back : List Hole) (k : Hole) → n ≤ length row → ks ≡ front ++ (k ∷ back) → length front < n
        → get_or listed (length front) 0 ≡ f k
    listed_in front back k fits e l =
        let c : length ks ≡ length front + suc (length back) = ap length e ∙ length-append front (k ∷ back) in
        over_in (take n (map f ks)) row (length front) (omega (arith, taken_length)) (omega arith)
        ∙ get_or-take n (map f ks) (length front) 0 l
        ∙ rw e (at_hole front back k)

    listed_out : (i : ℕ) → min n (length ks) ≤ i → get_or listed i 0 ≡ get_or row i 0
    listed_out i l = over_out (take n (map f ks)) row i (omega (arith, taken_length))

    listed_row : n ≤ length row → RowAt f ks n row listed
    listed_row fits = (over_length (take n (map f ks)) row, λ front back k. listed_in front back k fits, listed_out)

-- the holes in both rows
pub in_rows_lem : (ks : List Hole) (r : Rows)
    → RowAt (λ k. k.addr.0) ks (min (length r.addrs) (length r.sizes)) r.addrs (in_rows ks r).addrs
    × RowAt (λ k. k.size) ks (min (length r.addrs) (length r.sizes)) r.sizes (in_rows ks r).sizes
unfolding in_rows
in_rows_lem ks r =
    let n = min (length r.addrs) (length r.sizes) in
    (listed_row (λ k. k.addr.0) ks n r.addrs (omega arith), listed_row (λ k. k.size) ks n r.sizes (omega arith))

pub list_does : ListDoes ours
unfolding accepted unless rows_after leaves_rows
list_does h m r g =
    let e = good_outcome list h m refl g in
    let rows = in_rows_lem (holes h m) r in
    (e, rw e rows.0, rw e rows.1)
