-- What a reader that gives bytes in turn has given, where they are known, and where a buffer keeps them; and what a writer holds that takes them in turn.
--   consumes-nothing == before the first read no byte is gone
--   consumes-both    == bytes that two reads took, one after the other
--   consumes-kept    == a read that fails after them takes none
--   take-read        == what a buffer begins with once n more bytes stand in it from a on
--   read-more        == so it begins with all that is gone, after one more read
--   read-nothing     == also after one that gave no byte
--   read-fails       == and after one that failed
--   failed-read      == an answer that is no count says no more than that
--   appends-both     == bytes that two writes took, one after the other
--   write-more       == so the writer holds what the page begins with, after one more write
use Rattle.std.proofs.Common.{◌≡◌, refl, ℕ, ◌+◌, ◌≤◌, List, [], ◌++◌, length, take, drop, ap, sym, ◌∙◌, subst, None, Some, append_assoc, le_refl, drop_at, length-take-le, arith, ◌-◌, slice_range}
use Rattle.std.specs.declared.option.Option.{Option}
use Rattle.std.specs.Io.KnownBytes.{Consumes, Keeps, Appends}
use Rattle.std.proofs.lemmas.Slice.{take-put_mid_below}
use Rattle.std.specs.Prelude.{Result, Ok, Err, IsErr}
use Rattle.streams.specs.Says.{ReadFrom}
use borrow.Rule.Slice.PartMut.{put_mid, post_of}
use lib.Seq.{take-add, take-append-le, take-take}

pub consumes-nothing : (a : Option (List ℕ)) → Consumes a a []
consumes-nothing None = tt
consumes-nothing (Some x) = refl

pub consumes-both : (a b c : Option (List ℕ)) (bs cs : List ℕ) → Consumes a b bs → Consumes b c cs → Consumes a c (bs ++ cs)
consumes-both None b c bs cs p q = tt
consumes-both (Some x) None c bs cs p q = absurd p
consumes-both (Some x) (Some y) None bs cs p q = absurd q
consumes-both (Some x) (Some y) (Some z) bs cs p q = p ∙ ap (λ l. bs ++ l) q ∙ sym (append_assoc bs cs z)

pub consumes-kept : (a b c : Option (List ℕ)) (bs : List ℕ) → Consumes a b bs → Keeps b c → Consumes a c bs
consumes-kept None b c bs p q = tt
consumes-kept (Some x) None c bs p q = absurd p
consumes-kept (Some x) (Some y) None bs p q = absurd q
consumes-kept (Some x) (Some y) (Some z) bs p q = p ∙ ap (λ l. bs ++ l) (sym q)

pub take-read : (a k n : ℕ) (xs ys : List ℕ) → a ≤ length xs → n ≤ length ys → take (a + n) (put_mid a k xs ys) ≡ take a xs ++ take n ys
take-read a k n xs ys within fits =
    let after = post_of a k xs in
    take-add a n (put_mid a k xs ys)
    ∙ ap (λ l. l ++ take n (drop a (put_mid a k xs ys))) (take-put_mid_below a k xs ys a (le_refl a) within)
    ∙ ap (λ l. take a xs ++ take n l) (drop_at (take a xs) (ys ++ after) a (length-take-le a xs within))
    ∙ ap (λ l. take a xs ++ l) (take-append-le n ys after fits)

pub read-more : (a b c : Option (List ℕ)) (at k n : ℕ) (xs ys : List ℕ) → at ≤ length xs → n ≤ length ys → Consumes a b (take at xs) → Consumes b c (take n ys)
    → Consumes a c (take (at + n) (put_mid at k xs ys))
read-more a b c at k n xs ys within fits p q = subst (Consumes a c) (sym (take-read at k n xs ys within fits)) (consumes-both a b c _ _ p q)

pub read-nothing : (a b c : Option (List ℕ)) (at k n : ℕ) (xs ys : List ℕ) → n ≡ 0 → at ≤ length xs → Consumes a b (take at xs) → Consumes b c (take n ys)
    → Consumes a c (take at (put_mid at k xs ys))
read-nothing a b c at k n xs ys none within p q =
    let same : at + n ≡ at = omega arith in
    subst (λ m. Consumes a c (take m (put_mid at k xs ys))) same (read-more a b c at k n xs ys within (omega arith) p q)

pub read-fails : (a b c : Option (List ℕ)) (at k : ℕ) (xs ys : List ℕ) → at ≤ length xs → Consumes a b (take at xs) → Keeps b c → Consumes a c (take at (put_mid at k xs ys))
read-fails a b c at k xs ys within p q = subst (Consumes a c) (sym (take-put_mid_below at k xs ys at (le_refl at) within)) (consumes-kept a b c _ p q)

pub failed-read : {E : Type 0} (known left : Option (List ℕ)) (b : List ℕ) (r : Result ℕ E) → IsErr r → ((n : ℕ) × (n ≤ length b) × Consumes known left (take n b)) → ReadFrom known left b r
failed-read known left b (Ok n) is p = absurd (cc is)
failed-read known left b (Err e) is p = p

pub appends-both : (a b c : Option (List ℕ)) (bs cs : List ℕ) → Appends a b bs → Appends b c cs → Appends a c (bs ++ cs)
appends-both None b c bs cs p q = tt
appends-both (Some x) None c bs cs p q = absurd p
appends-both (Some x) (Some y) None bs cs p q = absurd q
appends-both (Some x) (Some y) (Some z) bs cs p q = q ∙ ap (λ l. l ++ cs) p ∙ append_assoc x bs cs

pub write-more : (a b c : Option (List ℕ)) (at count n : ℕ) (xs : List ℕ) → n ≤ count - at → Appends a b (take at xs) → Appends b c (take n (slice_range xs at count))
    → Appends a c (take (at + n) xs)
write-more a b c at count n xs fits p q =
    subst (Appends a c) (ap (λ l. take at xs ++ l) (take-take n (count - at) (drop at xs) fits) ∙ sym (take-add at n xs)) (appends-both a b c _ _ p q)
