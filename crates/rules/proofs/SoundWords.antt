-- What the tests of soundness and the roundings compute is what the paper's words say. Assumes nothing.
use mathlib.Core.Path.{◌≡◌, refl, sym, ap, ◌∙◌}
use mathlib.Core.Bool.{true}
use mathlib.Core.List.Memᴰ
use mathlib.Core.List.{List, [], ◌∷◌, ◌++◌, Memᴰ}
use mathlib.Core.Logic.{⊎_elim}
use Prim.Native.Nat.{ℕ, ◌+◌, ◌-◌, ◌≤◌}
use native.Mathlib.Omega.{arith}
use native.Mathlib.Nat.{max-le}
use borrow.Author.Tests.{leb-true, eqb-true, le-leb, eq-eqb}
use Rattle.rules.specs.declared.Hole.{Hole}
use Rattle.rules.specs.declared.Heap.{Heap}
use Rattle.rules.specs.Fixed.{min_size, grain}
use Rattle.rules.specs.Round.{up_to}
use Rattle.rules.specs.Tests.{all}
use Rattle.rules.specs.Kinds.{addr, plus, not_after, raised}
use Rattle.rules.specs.Holes.{end, total}
use Rattle.rules.specs.Sound.{number_rules, sound_numbers, gap, hole_rules, lie, rise, leave_before, leave_after, list_rules, sound_holes, sound}
use Rattle.rules.specs.Allocate.{rounded}
use Rattle.rules.specs.Calls.{left, only_hole}
use Rattle.rules.specs.InWords.{Gap, end_of, sum, SoundNumbers, SoundHole, SoundHoles, Sound, Rounds, Left}
use Rattle.rules.specs.Behaviour.{ours}
use Rattle.rules.specs.Statements.{SoundMeans}
use Rattle.rules.specs.Inner.{Fair, Ruled}
use Rattle.std.proofs.lemmas.Bool.{and_from, and_parts}
use Rattle.rules.proofs.Cases.{last, all_each, each_all}
use Rattle.rules.proofs.Gaps.{gap_words, words_gap}
use Rattle.rules.proofs.Multiples.{up_is, above_is, down_is, below_is}
use Rattle.rules.proofs.Powers.{power_pos, grain_power}
use Rattle.rules.proofs.Layouts.{rounded_is, is_rounded}
use Rattle.rules.proofs.Walk.{sound_ruled, ruled_sound}

-- ---- the roundings

pub rounded_rounds : (s : ℕ) → Rounds s (rounded s)
rounded_rounds s =
    let a = rounded_is s in
    record {
      multiple = a.multiple;
      covers = omega arith;
      sixteen = omega arith;
      least = λ y m c l. a.least y m (max-le c l);
    }

pub rounds_rounded : {s r : ℕ} → Rounds s r → r ≡ rounded s
rounds_rounded {s} {r} p =
    is_rounded s refl
    (record {
      multiple = p.multiple;
      above = max-le p.covers p.sixteen;
      least = λ y m l. p.least y m (omega arith) (omega arith);
    })

-- what opening takes for bottom and for the hole is what is left
pub left_is : {base named bottom s : ℕ} → Left base named bottom s
    → (bottom ≡ (raised grain (addr base)).0) × (s ≡ (only_hole (addr base) named).size)
left_is {base} {named} {bottom} {s} p =
    let b : bottom ≡ up_to grain base = above_is (power_pos grain_power) p.up in
    (b, below_is (power_pos grain_power) (rw b at p.down))

pub is_left : (base named : ℕ) → Left base named (raised grain (addr base)).0 (only_hole (addr base) named).size
is_left base named =
    record {
      up = up_is grain base (power_pos grain_power);
      down = down_is grain (left (addr base) named) (power_pos grain_power);
    }

-- ---- the rules on the numbers

pub numbers_words : (h : Heap) → sound_numbers h ≡ true → SoundNumbers h
unfolding sound_numbers
numbers_words h e =
    let q = sound_ruled h e in
    let f = q.fair in
    let r = all_each (number_rules h) e in
    let b : h.bottom.0 ≡ up_to grain h.base.0 = eqb-true h.bottom.0 (up_to grain h.base.0) r.1.1.1.0 in
    record {
      base = f.base;
      arena = q.small;
      low = f.low;
      bottom = rw b (up_is grain h.base.0 (power_pos grain_power));
      eight = omega arith;
      sixteen = f.room;
      pending = q.pending;
      fits = f.fits;
    }

pub words_ruled : (h : Heap) → SoundNumbers h → Ruled h
words_ruled h p =
    let b : h.bottom.0 ≡ up_to grain h.base.0 = above_is (power_pos grain_power) p.bottom in
    omega arith

pub words_fair : (h : Heap) → SoundNumbers h → Fair h
words_fair h p = (words_ruled h p).fair

pub words_numbers : (h : Heap) → SoundNumbers h → sound_numbers h ≡ true
words_numbers h p = ruled_sound h (words_ruled h p)

-- ---- the rules on the holes

lie_words : (h : Heap) (ks : List Hole) → lie h ks ≡ true → (k : Hole) → Memᴰ k ks → SoundHole h k
unfolding lie
lie_words h [] e k m = absurd (Memᴰ.not-nil m)
lie_words h (j ∷ ks) e k m =
    ⊎_elim
    (λ q. let r = all_each (hole_rules h j) (and_parts (all (hole_rules h j)) (lie h ks) e).0 in
    let s : SoundHole h j = omega (arith, leb-true, eqb-true) in
    rw q s)
    (λ n. lie_words h ks (and_parts (all (hole_rules h j)) (lie h ks) e).1 k n)
    (Memᴰ.cases_cons m)

words_lie : (h : Heap) (ks : List Hole) → ((k : Hole) → Memᴰ k ks → SoundHole h k) → lie h ks ≡ true
unfolding lie
words_lie h [] f = refl
words_lie h (k ∷ ks) f =
    let s = f k (Memᴰ.head refl) in
    and_from _ _ (each_all (hole_rules h k) (omega (arith, le-leb, eq-eqb))) (words_lie h ks (λ j m. f j (Memᴰ.tail m)))

-- each hole of a list that rises lies 16 bytes behind the one before it
abbrev pub Apart : List Hole → Type 0
Apart ks = (front back : List Hole) (j k : Hole) → ks ≡ front ++ (j ∷ k ∷ back) → end_of j + 16 ≤ k.addr.0

rise_tail : (k : Hole) (ks : List Hole) → rise (k ∷ ks) ≡ true → rise ks ≡ true
unfolding rise
rise_tail k [] e = refl
rise_tail k (j ∷ js) e = (and_parts (not_after (plus (end k) min_size) j.addr) (rise (j ∷ js)) e).1

rise_at : (front back : List Hole) (j k : Hole) → rise (front ++ (j ∷ k ∷ back)) ≡ true → end_of j + 16 ≤ k.addr.0
unfolding rise
rise_at [] back j k e =
    leb-true (end_of j + 16) k.addr.0 (and_parts (not_after (plus (end j) min_size) k.addr) (rise (k ∷ back)) e).0
rise_at (i ∷ front) back j k e = rise_at front back j k (rise_tail i (front ++ (j ∷ k ∷ back)) e)

rise_words : (ks : List Hole) → rise ks ≡ true → Apart ks
rise_words ks e front back j k q = rise_at front back j k (rw q at e)

words_rise : (ks : List Hole) → Apart ks → rise ks ≡ true
unfolding rise
words_rise [] f = refl
words_rise (k ∷ []) f = refl
words_rise (k ∷ j ∷ js) f =
    and_from _ _ (le-leb (end_of k + 16) j.addr.0 (f [] js k j refl))
    (words_rise (j ∷ js) (λ front back i l q. f (k ∷ front) back i l (ap (λ (xs : List Hole). k ∷ xs) q)))

-- the last hole leaves what the list leaves
leaves_last : (h : Heap) (front : List Hole) (k : Hole) → leave_after h (front ++ (k ∷ [])) ≡ gap (end k) h.top
unfolding leave_after
leaves_last h [] k = refl
leaves_last h (j ∷ []) k = refl
leaves_last h (j ∷ i ∷ front) k = leaves_last h (i ∷ front) k

words_leaves : (h : Heap) (ks : List Hole) → ((front : List Hole) (k : Hole) → ks ≡ front ++ (k ∷ []) → Gap (end_of k) h.top.0)
    → leave_after h ks ≡ true
unfolding leave_after
words_leaves h [] f = refl
words_leaves h (k ∷ []) f = words_gap (end k) h.top (f [] k refl)
words_leaves h (k ∷ j ∷ js) f =
    words_leaves h (j ∷ js) (λ front i q. f (k ∷ front) i (ap (λ (xs : List Hole). k ∷ xs) q))

words_before : (h : Heap) (ks : List Hole) → ((k : Hole) (back : List Hole) → ks ≡ k ∷ back → Gap h.bottom.0 k.addr.0)
    → leave_before h ks ≡ true
unfolding leave_before
words_before h [] f = refl
words_before h (k ∷ ks) f = words_gap h.bottom k.addr (f k ks refl)

sum_total : (ks : List Hole) → sum ks ≡ total ks
unfolding total
sum_total [] = refl
sum_total (k ∷ ks) = rw (sum_total ks)

pub holes_words : (h : Heap) (ks : List Hole) → sound_holes h ks ≡ true → SoundHoles h ks
unfolding sound_holes leave_before
holes_words h ks e =
    let (each, (rises, (first, (last, (sums, none))))) = all_each (list_rules h ks) e in
    record {
      each = lie_words h ks each;
      rise = rise_words ks rises;
      first = λ k back q. gap_words h.bottom k.addr (rw q at first);
      last = λ front k q. gap_words (end k) h.top (sym (leaves_last h front k) ∙ (rw q at last));
      sums = rw (sum_total ks) (eqb-true (total ks + h.used) (h.top.0 - h.bottom.0) sums);
    }

pub words_holes : (h : Heap) (ks : List Hole) → SoundHoles h ks → sound_holes h ks ≡ true
unfolding sound_holes
words_holes h ks p =
    each_all (list_rules h ks) (
      words_lie h ks p.each,
      (
        words_rise ks p.rise,
        (
          words_before h ks p.first,
          (
            words_leaves h ks p.last,
            (eq-eqb (total ks + h.used) (h.top.0 - h.bottom.0) (rw (sum_total ks) at p.sums), tt),
          ),
        ),
      ),
    )

-- ---- both

pub sound_words : (h : Heap) (ks : List Hole) → sound h ks ≡ true → Sound h ks
unfolding sound
sound_words h ks e = (
  numbers_words h (and_parts (sound_numbers h) (sound_holes h ks) e).0,
  holes_words h ks (and_parts (sound_numbers h) (sound_holes h ks) e).1,
)

pub words_sound : (h : Heap) (ks : List Hole) → Sound h ks → sound h ks ≡ true
unfolding sound
words_sound h ks p = and_from _ _ (words_numbers h p.0) (words_holes h ks p.1)

pub ruled_words : (h : Heap) (ks : List Hole) → Ruled h → sound_holes h ks ≡ true → Sound h ks
ruled_words h ks r e = (numbers_words h (ruled_sound h r), holes_words h ks e)

pub sound_means : SoundMeans ours
sound_means h ks = (sound_words h ks, words_sound h ks)
