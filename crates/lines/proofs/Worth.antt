-- Digits in words and digits computed: what each is worth, and all of them together. Assumes nothing.
use mathlib.Core.Path.{◌≡◌, refl, sym, ap, ◌∙◌}
use mathlib.Core.Bool.{true, ◌&&◌, cond}
use mathlib.Core.List.{List, [], ◌∷◌, ◌++◌}
use mathlib.Core.Logic.{inl, inr, ⊎_elim}
use Prim.Native.Nat.{ℕ, zero, suc, ◌+◌, ◌*◌, ◌/◌, ◌%◌, ◌-◌, ◌^◌, ◌≤◌, ◌<◌}
use native.Mathlib.Omega.{arith}
use native.Mathlib.Nat.{pow-suc, mul-le-mul_right, mod-lt, div-add-mod', div-lt_iff_lt-mul}
use lib.Dec.{leb, ltb}
use lib.ListN.{length, length-append}
use borrow.Author.Tests.{leb-true, ltb-true, lt-ltb, le-ltb, le-leb}
use Rattle.std.proofs.lemmas.Bool.{and_from, and_parts, cond_both}
use Rattle.rules.proofs.Cases.{apart, by_le}
use Rattle.lines.specs.Frames.{digit, digits, value}
use Rattle.lines.specs.Lines.{glyph, hex}
use Rattle.lines.specs.Format.{Digit, Worth}

-- ---- one digit

pub digit_low : (b v : ℕ) → Digit b v → v < 16
digit_low b v d = ⊎_elim (λ (l, m, e). omega arith) (λ (l, m, e). omega arith) d

-- a choice between two ends, and outside of them
by_ends : (P : ℕ → Type 0) (lo b hi x y : ℕ) → (lo ≤ b → b ≤ hi → P x) → ((lo ≤ b → b ≤ hi → ⊥) → P y)
    → P (cond (leb lo b && leb b hi) x y)
by_ends P lo b hi x y f g =
    cond_both (leb lo b && leb b hi) x y P
    (λ t. f (leb-true lo b (and_parts (leb lo b) (leb b hi) t).0) (leb-true b hi (and_parts (leb lo b) (leb b hi) t).1))
    (λ t. g (λ l m. apart (and_from _ _ (le-leb lo b l) (le-leb b hi m)) t))

pub digit_is : (b v : ℕ) → Digit b v → digit b ≡ v
unfolding digit
digit_is b v d =
    by_ends (λ n. n ≡ v) 48 b 57 (b - 48) _
    (λ l m. ⊎_elim (λ (l', m', e). omega arith) (λ (l', m', e). omega arith) d)
    (λ o.
    by_ends (λ n. n ≡ v) 97 b 102 (b - 87) 16
    (λ l m. ⊎_elim (λ (l', m', e). omega arith) (λ (l', m', e). omega arith) d)
    (λ u. ⊎_elim (λ (l', m', e). absurd (o l' m')) (λ (l', m', e). absurd (u l' m')) d))

pub digit_says : (b : ℕ) → digit b < 16 → Digit b (digit b)
unfolding digit
digit_says b =
    by_ends (λ n. n < 16 → Digit b n) 48 b 57 (b - 48) _
    (λ l m k. inl (l, m, refl))
    (λ o.
    by_ends (λ n. n < 16 → Digit b n) 97 b 102 (b - 87) 16
    (λ l m k. inr (l, m, omega arith))
    (λ u k. absurd (omega arith)))

-- a value has one digit
pub digit_one : (a b v : ℕ) → Digit a v → Digit b v → a ≡ b
digit_one a b v d e =
    ⊎_elim (λ (l, m, i). ⊎_elim (λ (l', m', j). omega arith) (λ (l', m', j). absurd (omega arith)) e)
    (λ (l, m, i). ⊎_elim (λ (l', m', j). absurd (omega arith)) (λ (l', m', j). omega arith) e) d

pub glyph_says : (v : ℕ) → v < 16 → Digit (glyph v) v
unfolding glyph
glyph_says v l =
    by_le 10 v (λ m. rw (le-ltb v 10 m) (inr (omega arith, omega arith, omega arith)))
    (λ m. rw (lt-ltb v 10 m) (inl (omega arith, omega arith, omega arith)))

-- ---- all of them

-- the digits before those of a line stand as many places higher
value_behind : (n : ℕ) (bs : List ℕ) → value n bs ≡ n * 16 ^ length bs + value 0 bs
unfolding value
value_behind n [] = omega arith
value_behind n (b ∷ bs) =
    let e = pow-suc 16 (length bs) in
    value_behind (n * 16 + digit b) bs ∙ rw (e, value_behind (0 * 16 + digit b) bs) (omega arith)

pub worth_digits : (bs : List ℕ) (n : ℕ) → Worth bs n → digits bs ≡ true
unfolding digits
worth_digits [] n w = refl
worth_digits (b ∷ bs) n (v, rest, d, w, e) =
    and_from (ltb (digit b) 16) (digits bs) (rw (digit_is b v d) (lt-ltb v 16 (digit_low b v d))) (worth_digits bs rest w)

pub worth_value : (bs : List ℕ) (n : ℕ) → Worth bs n → value 0 bs ≡ n
unfolding value
worth_value [] n w = sym w
worth_value (b ∷ bs) n (v, rest, d, w, e) =
    let i = digit_is b v d in
    let k = worth_value bs rest w in
    value_behind (0 * 16 + digit b) bs ∙ rw (i, k) (omega arith)

pub digits_worth : (bs : List ℕ) → digits bs ≡ true → Worth bs (value 0 bs)
unfolding digits value
digits_worth [] e = refl
digits_worth (b ∷ bs) e = (
  digit b,
  value 0 bs,
  digit_says b (ltb-true (digit b) 16 (and_parts (ltb (digit b) 16) (digits bs) e).0),
  digits_worth bs (and_parts (ltb (digit b) 16) (digits bs) e).1,
  value_behind (0 * 16 + digit b) bs ∙ omega arith,
)

-- ---- how much they can be worth, and that they are the only ones worth that

pub worth_low : (bs : List ℕ) (n : ℕ) → Worth bs n → n < 16 ^ length bs
worth_low [] n w = omega arith
worth_low (b ∷ bs) n (v, rest, d, w, e) =
    let l = worth_low bs rest w in
    let m = mul-le-mul_right {m = suc v} {n = 16} (16 ^ length bs) (digit_low b v d) in
    rw (pow-suc 16 (length bs)) (omega arith)

-- a sum of a multiple of p and a number below p is so in one way
parts_one : (p v r v' r' : ℕ) → r < p → r' < p → v * p + r ≡ v' * p + r' → (v ≡ v') × (r ≡ r')
parts_one p v r v' r' l l' e =
    by_le v v'
    (λ m. by_le v' v
    (λ m'. let q : v ≡ v' = omega arith in (q, omega (arith, ap (λ x. x * p) q)))
    (λ m'. absurd (omega (arith, mul-le-mul_right {m = suc v} {n = v'} p m'))))
    (λ m. absurd (omega (arith, mul-le-mul_right {m = suc v'} {n = v} p m)))

pub worth_one : (cs bs : List ℕ) (n : ℕ) → length cs ≡ length bs → Worth cs n → Worth bs n → cs ≡ bs
worth_one [] [] n l w x = refl
worth_one [] (b ∷ bs) n l w x = absurd (omega arith)
worth_one (c ∷ cs) [] n l w x = absurd (omega arith)
worth_one (c ∷ cs) (b ∷ bs) n l (v, r, d, w, e) (v', r', d', w', e') =
    let k : length cs ≡ length bs = omega arith in
    let q = parts_one (16 ^ length cs) v r v' r' (worth_low cs r w) (rw k (worth_low bs r' w'))
    (sym e ∙ e' ∙ ap (λ i. v' * 16 ^ i + r') (sym k)) in
    let first : c ≡ b = digit_one c b v d (rw q.0 d') in
    let rest : cs ≡ bs = worth_one cs bs r k w (rw q.1 w') in
    rw (first, rest)

-- ---- digits computed

pub hex_length : (n x : ℕ) → length (hex n x) ≡ n
unfolding hex
hex_length zero x = refl
hex_length (suc n) x = simp (length-append, hex_length n (x / 16)) (omega arith)

-- one more behind them
worth_more : (bs : List ℕ) (n b v : ℕ) → Worth bs n → Digit b v → Worth (bs ++ (b ∷ [])) (n * 16 + v)
worth_more [] n b v w d = (v, 0, d, refl, omega arith)
worth_more (a ∷ bs) n b v (u, rest, c, w, e) d =
    let k : length (bs ++ (b ∷ [])) ≡ suc (length bs) = length-append bs (b ∷ []) ∙ omega arith in
    let p = pow-suc 16 (length bs) in
    (u, rest * 16 + v, c, worth_more bs rest b v w d, rw (k, p) (omega arith))

pub hex_says : (k n : ℕ) → n < 16 ^ k → Worth (hex k n) n
unfolding hex
hex_says zero n l = omega arith
hex_says (suc k) n l =
    let p = pow-suc 16 k in
    let e = div-add-mod' n 16 in
    let w = worth_more (hex k (n / 16)) (n / 16) (glyph (n % 16)) (n % 16)
    (hex_says k (n / 16) ((div-lt_iff_lt-mul {k = 16} {x = n} {y = 16 ^ k} (omega arith)).1 (omega arith)))
    (glyph_says (n % 16) (mod-lt n (omega arith))) in
    rw e at w
