-- What a head written at a place leaves, and what a head read there is. Assumes nothing.
use mathlib.Core.Path.{◌≡◌, ap, ◌∙◌}
use mathlib.Core.Logic.{inl}
use mathlib.Core.List.{List, ◌++◌}
use Prim.Native.Nat.{ℕ, ◌+◌, ◌^◌, ◌≤◌, ◌<◌}
use native.Mathlib.Omega.{arith}
use lib.ListN.{length, get_or, take, drop, take-append-drop}
use Rattle.rules.specs.declared.Place.{Place}
use Rattle.rules.specs.declared.Head.{Head}
use Rattle.rules.specs.Kinds.{place}
use Rattle.rules.specs.Words.{word, store}
use Rattle.rules.specs.Holes.{head_at, put_head}
use Rattle.rules.specs.Inner.{Bytes}
use Rattle.rules.proofs.Words.{Agree, word_agree, word_else, word_store, store_length, store_below, store_above, store_bytes, store_same, take_store_le, drop_store_le, take_store, drop_store}

-- ---- writing leaves the rest

pub put_head_length : (m : List ℕ) (p : Place) (h : Head) → length (put_head m p h) ≡ length m
unfolding put_head
put_head_length m p h =
    store_length 8 (store 8 m p.0 h.size) (p.0 + 8) h.next.0 ∙ store_length 8 m p.0 h.size

pub put_head_below : (m : List ℕ) (p : Place) (h : Head) (j : ℕ) → j < p.0 → get_or (put_head m p h) j 0 ≡ get_or m j 0
unfolding put_head
put_head_below m p h j l =
    store_below 8 (store 8 m p.0 h.size) (p.0 + 8) h.next.0 j (omega arith)
    ∙ store_below 8 m p.0 h.size j l

pub put_head_above : (m : List ℕ) (p : Place) (h : Head) (j : ℕ) → p.0 + 16 ≤ j → get_or (put_head m p h) j 0 ≡ get_or m j 0
unfolding put_head
put_head_above m p h j l =
    store_above 8 (store 8 m p.0 h.size) (p.0 + 8) h.next.0 j (omega arith)
    ∙ store_above 8 m p.0 h.size j (omega arith)

pub put_head_bytes : (m : List ℕ) (p : Place) (h : Head) → Bytes m → Bytes (put_head m p h)
unfolding put_head
put_head_bytes m p h s =
    store_bytes 8 (store 8 m p.0 h.size) (p.0 + 8) h.next.0 (store_bytes 8 m p.0 h.size s)

-- ---- reading

-- a head is what its sixteen bytes say
pub head_agree : (m m' : List ℕ) (p : Place) → Agree m m' p.0 16 → head_at m p ≡ head_at m' p
unfolding head_at
head_agree m m' p a =
    let size = word_agree 8 m m' p.0 (λ j u v. a j u (omega arith)) in
    let next = word_agree 8 m m' (p.0 + 8) (λ j u v. a j (omega arith) (omega arith)) in
    rw (size, next)

-- what was written is read back
pub head_back : (m : List ℕ) (p : Place) (h : Head) → p.0 + 16 ≤ length m → h.size < 2 ^ 64 → h.next.0 < 2 ^ 64
    → head_at (put_head m p h) p ≡ h
unfolding head_at put_head
head_back m p h fits size_fits next_fits =
    let m₁ = store 8 m p.0 h.size in
    let size : word 8 (store 8 m₁ (p.0 + 8) h.next.0) p.0 ≡ h.size =
    word_else 8 8 m₁ (p.0 + 8) h.next.0 p.0 (inl (omega arith))
    ∙ word_store 8 m p.0 h.size (omega arith) size_fits in
    let next : word 8 (store 8 m₁ (p.0 + 8) h.next.0) (p.0 + 8) ≡ h.next.0 =
    word_store 8 m₁ (p.0 + 8) h.next.0 (omega (arith, store_length 8 m p.0 h.size)) next_fits in
    rw (size, next)

-- ---- writing again

-- what is read may be written again with no change
pub head_same : (m : List ℕ) (p : Place) → Bytes m → put_head m p (head_at m p) ≡ m
unfolding head_at put_head
head_same m p s =
    let size = store_same 8 m p.0 s in
    let next = store_same 8 m (p.0 + 8) s in
    cc

-- ---- a head in a part

-- a head written into the sixteen bytes from a place on, as a part that is lent and comes back, is written at that place
pub head_part : (m : List ℕ) (p : Place) (h : Head)
    → take p.0 m ++ (put_head (take 16 (drop p.0 m)) (place 0) h ++ drop 16 (drop p.0 m)) ≡ put_head m p h
unfolding put_head
head_part m p h =
    let a = p.0 in
    let s = h.size in
    let x = h.next.0 in
    let b = drop a m in
    let start : a + 0 ≡ a = omega arith in
    let m₁ = store 8 m a s in
    let m₂ = store 8 m₁ (a + 8) x in
    let front : take a m₂ ≡ take a m = take_store_le 8 a m₁ (a + 8) x (omega arith) ∙ take_store_le 8 a m a s (omega arith) in
    let one : drop a m₁ ≡ store 8 b 0 s = rw start at (drop_store 8 a m 0 s) in
    let two : drop a m₂ ≡ store 8 (store 8 b 0 s) 8 x = drop_store 8 a m₁ 8 x ∙ ap (λ (l : List ℕ). store 8 l 8 x) one in
    let part : take 16 (store 8 (store 8 b 0 s) 8 x) ≡ store 8 (store 8 (take 16 b) 0 s) 8 x =
    take_store 8 16 (store 8 b 0 s) 8 x (omega arith)
    ∙ ap (λ (l : List ℕ). store 8 l 8 x) (take_store 8 16 b 0 s (omega arith)) in
    let rest : drop 16 (store 8 (store 8 b 0 s) 8 x) ≡ drop 16 b =
    drop_store_le 8 16 (store 8 b 0 s) 8 x (omega arith) ∙ drop_store_le 8 16 b 0 s (omega arith) in
    let back = take-append-drop 16 (drop a m₂) in
    let whole = take-append-drop a m₂ in
    cc
