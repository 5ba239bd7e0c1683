-- What comes of hearing bytes: a byte, a line, further bytes. Assumes nothing.
use mathlib.Core.Path.{◌≡◌, refl, sym, ap, ◌∙◌}
use mathlib.Core.List.{List, [], ◌∷◌, ◌++◌, append_assoc, append-nil, Memᴰ}
use Prim.Native.Nat.{ℕ, zero, suc, ◌+◌, ◌-◌, ◌≤◌, ◌<◌}
use native.Mathlib.Omega.{arith}
use lib.ListN.{length, take, drop, get_or, length-append, length-drop}
use lib.Seq.{split_at, take_all, take_at, take-append-add, take-length}
use Rattle.std.proofs.lemmas.Bool.{eqb-true}
use Rattle.memchr.specs.Find.{is_byte}
use Rattle.std.specs.Prelude.{min, true}
use borrow.Author.Tests.{lt-ltb, le-ltb, eq-eqb, ne_eqb}
use Rattle.rules.specs.declared.Heap.{Heap}
use Rattle.rules.proofs.Cases.{by_eq, by_le}
use Rattle.lines.specs.Wire.{replied}
use Rattle.talk.specs.Hearing.{lf, line_room, Come, answered, keeping, kept_with, hearing, heard, holding, taken}
use Rattle.talk.specs.Transcript.{NoEnd, at}

-- ---- any bytes

pub heard_append : (xs ys : List ℕ) (c : Come) → heard (xs ++ ys) c ≡ heard ys (heard xs c)
unfolding heard
heard_append [] ys c = refl
heard_append (x ∷ xs) ys c = heard_append xs ys (hearing x c)

-- further bytes
pub cut_next : (bs front part rest more : List ℕ) → bs ≡ front ++ rest → rest ≡ part ++ more → bs ≡ (front ++ part) ++ more
cut_next bs front part rest more e f = e ∙ ap (λ (xs : List ℕ). front ++ xs) f ∙ sym (append_assoc front part more)

pub heard_next : (front part : List ℕ) (c₀ c c' : Come) → c ≡ heard front c₀ → c' ≡ heard part c → c' ≡ heard (front ++ part) c₀
heard_next front part c₀ c c' e f = f ∙ ap (heard part) e ∙ sym (heard_append front part c₀)

-- ---- one byte

pub hearing_lf : (b : ℕ) (c : Come) → b ≡ lf → hearing b c ≡ answered c
unfolding hearing
hearing_lf b c e = rw (eq-eqb b lf e)

pub hearing_other : (b : ℕ) (c : Come) → (b ≡ lf → ⊥) → hearing b c ≡ keeping b c
unfolding hearing
hearing_other b c n = rw (ne_eqb b lf n)

-- ---- the bytes of a line

-- one byte more, behind any bytes of which as many are kept as there is room for
kept_on : (b : ℕ) (k bs : List ℕ) → length k ≤ line_room → take 67 (kept_with b k ++ bs) ≡ take 67 (k ++ (b ∷ bs))
kept_on b k bs l =
    by_le line_room (length k)
    (λ h.
    let f : kept_with b k ≡ k = rw (le-ltb (length k) line_room h) in
    rw f (take_at k bs 67 (omega arith) ∙ sym (take_at k (b ∷ bs) 67 (omega arith))))
    (λ h.
    let f : kept_with b k ≡ k ++ (b ∷ []) = rw (lt-ltb (length k) line_room h) in
    rw f (ap (take 67) (append_assoc k (b ∷ []) bs)))

kept_room : (b : ℕ) (k : List ℕ) → length k ≤ line_room → length (kept_with b k) ≤ line_room
kept_room b k l =
    by_le line_room (length k)
    (λ h. rw (le-ltb (length k) line_room h) l)
    (λ h. rw (lt-ltb (length k) line_room h) (simp length-append (omega arith)))

pub keeps : (bs k : List ℕ) (h : Heap) (m waits : List ℕ) → NoEnd bs → length k ≤ line_room
    → heard bs (at h m k waits) ≡ at h m (take 67 (k ++ bs)) waits
unfolding heard
keeps [] k h m waits n l = rw (append-nil k, take_all 67 k l)
keeps (b ∷ bs) k h m waits n l =
    ap (heard bs) (hearing_other b (at h m k waits) (n b (Memᴰ.head refl)))
    ∙ keeps bs (kept_with b k) h m waits (λ c i. n c (Memᴰ.tail i)) (kept_room b k l)
    ∙ ap (λ (ks : List ℕ). at h m ks waits) (kept_on b k bs l)

-- bytes in which no line ends
pub heard_part : (bs : List ℕ) (c : Come) → NoEnd bs → length c.kept ≤ line_room → heard bs c ≡ holding bs c
heard_part bs c n l = keeps bs c.kept c.heap c.arena c.waits n l

-- a line, and the LF that ends it
pub heard_line : (bs : List ℕ) (c : Come) → NoEnd bs → length c.kept ≤ line_room → heard (bs ++ (lf ∷ [])) c ≡ answered (holding bs c)
unfolding heard
heard_line bs c n l =
    heard_append bs (lf ∷ []) c ∙ ap (heard (lf ∷ [])) (heard_part bs c n l) ∙ hearing_lf lf (holding bs c) refl

-- the bytes before the first LF, and what is behind it
pub no_end : (bs : List ℕ) (n : ℕ) → ((k : ℕ) → 0 ≤ k → k < n → ¬ (is_byte lf (get_or bs k 0) ≡ true)) → NoEnd (take n bs)
no_end bs zero h b m e = elim m [ ]
no_end [] (suc n) h b m e = elim m [ ]
no_end (x ∷ bs) (suc n) h b (Memᴰ.head p) e = h 0 (omega arith) (omega arith) (eq-eqb x lf (sym p ∙ e))
no_end (x ∷ bs) (suc n) h b (Memᴰ.tail i) e = no_end bs n (λ k z l. h (suc k) (omega arith) (omega (arith, l))) b i e

pub none_ends : (bs : List ℕ) → ((k : ℕ) → 0 ≤ k → k < length bs → ¬ (is_byte lf (get_or bs k 0) ≡ true)) → NoEnd bs
none_ends bs h = let n = no_end bs (length bs) h in rw (take-length bs) at n

pub cut_at : (bs : List ℕ) (n : ℕ) → n < length bs → is_byte lf (get_or bs n 0) ≡ true
    → bs ≡ take n bs ++ (lf ∷ take (length bs - (n + 1)) (drop (n + 1) bs))
cut_at bs n l t =
    let d : take (length bs - (n + 1)) (drop (n + 1) bs) ≡ drop (n + 1) bs = take_all _ (drop (n + 1) bs) (simp length-drop (omega arith)) in
    let s : n + 1 ≡ suc n = omega arith in
    let e : get_or bs n 0 ≡ lf = eqb-true (get_or bs n 0) lf t in
    rw (d, s, sym e) (split_at bs n 0 l)

-- what is kept of further bytes
pub held : (n : ℕ) (kept part : List ℕ) → length kept + n ≡ line_room → kept ++ take (min (length part) n) part ≡ take line_room (kept ++ part)
held n kept part e =
    by_le n (length part)
    (λ l.
    let m : min (length part) n ≡ n = omega arith in
    rw (m, sym e) (sym (take-append-add kept part n)))
    (λ l.
    let m : min (length part) n ≡ length part = omega arith in
    rw (m, take-length part) (sym (take_all line_room (kept ++ part) (simp length-append (omega arith)))))

-- ---- answers taken away

-- answers before those that wait
abbrev pub before : List ℕ → Come → Come
before ws c = record { heap = c.heap; arena = c.arena; kept = c.kept; waits = ws ++ c.waits }

-- what waits decides nothing that is done
hearing_before : (ws : List ℕ) (b : ℕ) (c : Come) → hearing b (before ws c) ≡ before ws (hearing b c)
hearing_before ws b c =
    by_eq b lf
    (λ e.
    let r = replied c.kept c.heap c.arena in
    let all : answered (before ws c) ≡ before ws (answered c) =
    ap (λ (w : List ℕ). record { heap = r.heap; arena = r.arena; kept = []; waits = w }) (append_assoc ws c.waits r.printed) in
    hearing_lf b (before ws c) e ∙ all ∙ ap (before ws) (sym (hearing_lf b c e)))
    (λ n. rw (hearing_other b c n, hearing_other b (before ws c) n))

heard_before : (ws bs : List ℕ) (c : Come) → heard bs (before ws c) ≡ before ws (heard bs c)
unfolding heard
heard_before ws [] c = refl
heard_before ws (b ∷ bs) c = ap (heard bs) (hearing_before ws b c) ∙ heard_before ws bs (hearing b c)

-- bytes, and further bytes once the answers were taken away, come to all of them, but for the answers that were taken
pub heard_taken : (xs ys : List ℕ) (c₀ c c' : Come) → c ≡ taken (heard xs c₀) → c' ≡ heard ys c
    → heard (xs ++ ys) c₀ ≡ before (heard xs c₀).waits c'
heard_taken xs ys c₀ c c' t e =
    let d = heard xs c₀ in
    let whole : d ≡ before d.waits (taken d) = rw (append-nil d.waits) in
    heard_append xs ys c₀
    ∙ ap (heard ys) whole
    ∙ heard_before d.waits ys (taken d)
    ∙ ap (λ (x : Come). before d.waits (heard ys x)) (sym t)
    ∙ ap (before d.waits) (sym e)
