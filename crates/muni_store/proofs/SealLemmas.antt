-- A text of a seal is that of one value.
use Rattle.std.proofs.Common.{◌≡◌, ◌≤◌, ◌<◌, ◌/◌, ◌%◌, ◌^◌, ◌++◌, ℕ, zero, suc, List, [], ◌∷◌, Option, Some, None, IfSome, codes, append_assoc, append-nil, refl, sym, ap, subst, ◌∙◌, arith, length, ℤ, pos, negsuc, FitsSigned, Bool, IsTrue, ◌↔◌}
use Rattle.std.proofs.lemmas.List.{append_cancel_left}
use Rattle.std.proofs.lemmas.Bool.Decides.{nat_tests}
use Rattle.std.specs.Prelude.{⊤}
use Rattle.std.specs.List.{AllByRecursion}
use Rattle.std.specs.Int.{w64}
use Rattle.std.specs.Fmt.{decimal, signed_decimal}
use Rattle.std.specs.Str.Parse.{AllDigits}
use Rattle.std.proofs.lemmas.Fmt.{decimal_is_IsNumeral, decimal_injective}
use Rattle.std.proofs.lemmas.Str.Parse.{digit_from_value}
use Rattle.muni_dec.specs.Line.{behind_blanks, line}
use Rattle.muni_store.specs.declared.marks.FileTime.{FileTime}
use Rattle.muni_store.specs.declared.marks.FileMarks.{FileMarks}
use Rattle.muni_store.specs.declared.marks.Seen.{Seen}
use Rattle.muni_store.specs.Seal.{AreUntouchedSince}
use Rattle.muni_store.specs.SealText as spec

abbrev head : {A : Type 0} → A → List A → A
head x [] = x
head x (y ∷ ys) = y

abbrev tail : {A : Type 0} → List A → List A
tail [] = []
tail (x ∷ xs) = xs

-- no byte of a word is a blank or a line end
abbrev IsWord : List ℕ → Type 0
IsWord [] = ⊤
IsWord (c ∷ cs) = (32 < c) × IsWord cs

-- what follows a word
abbrev StartsLow : List ℕ → Type 0
StartsLow [] = ⊥
StartsLow (c ∷ cs) = c ≤ 32

cut : (xs ys r s : List ℕ) → IsWord xs → IsWord ys → StartsLow r → StartsLow s → xs ++ r ≡ ys ++ s → (xs ≡ ys) × (r ≡ s)
cut [] [] r s p q a b e = (refl, e)
cut [] (y ∷ ys) [] s p q a b e = absurd a
cut (x ∷ xs) [] r [] p q a b e = absurd b
cut [] (y ∷ ys) (c ∷ r) s p q a b e = absurd (omega (arith, ap (head 0) e, q.0, a))
cut (x ∷ xs) [] r (c ∷ s) p q a b e = absurd (omega (arith, ap (head 0) e, p.0, b))
cut (x ∷ xs) (y ∷ ys) r s p q a b e =
    let rest = cut xs ys r s p.1 q.1 a b (ap tail e) in
    (ap (λ c. c ∷ xs) (ap (head 0) e) ∙ ap (λ cs. y ∷ cs) rest.0, rest.1)

-- the words of a line
abbrev AreWords : List (List ℕ) → Type 0
AreWords [] = ⊤
AreWords (w ∷ ws) = IsWord w × AreWords ws

low : (ws : List (List ℕ)) (r : List ℕ) → StartsLow (behind_blanks ws ++ 10 ∷ r)
low [] r = omega arith
low (w ∷ ws) r = omega arith

same_words : (ws vs : List (List ℕ)) (r s : List ℕ) → AreWords ws → AreWords vs → behind_blanks ws ++ 10 ∷ r ≡ behind_blanks vs ++ 10 ∷ s → (ws ≡ vs) × (r ≡ s)
same_words [] [] r s p q e = (refl, ap tail e)
same_words [] (v ∷ vs) r s p q e = absurd (omega (arith, ap (head 0) e))
same_words (w ∷ ws) [] r s p q e = absurd (omega (arith, ap (head 0) e))
same_words (w ∷ ws) (v ∷ vs) r s p q e =
    let first = cut w v (behind_blanks ws ++ 10 ∷ r) (behind_blanks vs ++ 10 ∷ s) p.0 q.0 (low ws r) (low vs s)
    (sym (append_assoc w (behind_blanks ws) (10 ∷ r)) ∙ ap tail e ∙ append_assoc v (behind_blanks vs) (10 ∷ s)) in
    let rest = same_words ws vs r s p.1 q.1 first.1 in
    (ap (λ x. x ∷ ws) first.0 ∙ ap (λ xs. v ∷ xs) rest.0, rest.1)

moved : (w : List ℕ) (ws : List (List ℕ)) (r : List ℕ) → line (w ∷ ws) ++ r ≡ w ++ (behind_blanks ws ++ 10 ∷ r)
moved w ws r = append_assoc (w ++ behind_blanks ws) (10 ∷ []) r ∙ append_assoc w (behind_blanks ws) (10 ∷ r)

same_line : (w v : List ℕ) (ws vs : List (List ℕ)) (r s : List ℕ) → AreWords (w ∷ ws) → AreWords (v ∷ vs) → line (w ∷ ws) ++ r ≡ line (v ∷ vs) ++ s → (w ∷ ws ≡ v ∷ vs) × (r ≡ s)
same_line w v ws vs r s p q e =
    let first = cut w v (behind_blanks ws ++ 10 ∷ r) (behind_blanks vs ++ 10 ∷ s) p.0 q.0 (low ws r) (low vs s) (sym (moved w ws r) ∙ e ∙ moved v vs s) in
    let rest = same_words ws vs r s p.1 q.1 first.1 in
    (ap (λ x. x ∷ ws) first.0 ∙ ap (λ xs. v ∷ xs) rest.0, rest.1)

-- numbers are words

digits_word : (ds : List ℕ) → AllDigits 10 ds → IsWord ds
digits_word [] h = tt
digits_word (c ∷ cs) h = (omega (arith, (digit_from_value c h.0).0), digits_word cs h.1)

decimal_word : (n : ℕ) → n < 2 ^ 64 → IsWord (decimal n)
decimal_word n h = digits_word (decimal n) (decimal_is_IsNumeral n h).0.1

signed_word : (z : ℤ) → FitsSigned w64 z → IsWord (signed_decimal z)
signed_word (pos n) h = decimal_word n (omega (arith, h.sfits))
signed_word (negsuc n) h = (omega arith, decimal_word (suc n) (omega (arith, h.sfits)))

no_minus : (n : ℕ) (ds : List ℕ) → n < 2 ^ 64 → decimal n ≡ 45 ∷ ds → ⊥
no_minus n ds h e =
    let d = subst (AllDigits 10) e (decimal_is_IsNumeral n h).0.1 in
    omega (arith, (digit_from_value 45 d.0).0)

signed_same : (y z : ℤ) → FitsSigned w64 y → FitsSigned w64 z → signed_decimal y ≡ signed_decimal z → y ≡ z
signed_same (pos m) (pos n) p q e = ap pos (decimal_injective m n (omega (arith, p.sfits)) (omega (arith, q.sfits)) e)
signed_same (pos m) (negsuc n) p q e = absurd (no_minus m _ (omega (arith, p.sfits)) e)
signed_same (negsuc m) (pos n) p q e = absurd (no_minus n _ (omega (arith, q.sfits)) (sym e))
signed_same (negsuc m) (negsuc n) p q e = ap negsuc (omega (arith, decimal_injective (suc m) (suc n) (omega (arith, p.sfits)) (omega (arith, q.sfits)) (ap tail e)))

-- bytes in hex are a word

digit_word : (n : ℕ) → 32 < spec.hex_digit n
digit_word n = grind (arith, nat_tests)

hex_word : (bs : List ℕ) → IsWord (spec.hex bs)
hex_word [] = tt
hex_word (b ∷ bs) = (digit_word (b / 16), (digit_word (b % 16), hex_word bs))

digit_same : (m n : ℕ) → m < 16 → n < 16 → spec.hex_digit m ≡ spec.hex_digit n → m ≡ n
digit_same m n p q e = grind (arith, nat_tests)

hex_same : (bs cs : List ℕ) → AllByRecursion (λ byte. byte < 256) bs → AllByRecursion (λ byte. byte < 256) cs → spec.hex bs ≡ spec.hex cs → bs ≡ cs
hex_same [] [] p q e = refl
hex_same [] (c ∷ cs) p q e = absurd (omega (arith, ap length e))
hex_same (b ∷ bs) [] p q e = absurd (omega (arith, ap length e))
hex_same (b ∷ bs) (c ∷ cs) p q e =
    let high = digit_same (b / 16) (c / 16) (omega (arith, p.0)) (omega (arith, q.0)) (ap (head 0) e) in
    let low = digit_same (b % 16) (c % 16) (omega arith) (omega arith) (ap (head 0) (ap tail e)) in
    let byte : b ≡ c = omega (arith, high, low) in
    ap (λ x. x ∷ bs) byte ∙ ap (λ xs. c ∷ xs) (hex_same bs cs p.1 q.1 (ap tail (ap tail e)))

-- the lines of a file are those of one

abbrev time_of : ℤ → ℤ → FileTime
time_of seconds nanoseconds = record { seconds = seconds; nanoseconds = nanoseconds }

same_time : (a b : FileTime) → spec.IsTime a → spec.IsTime b → signed_decimal a.seconds ≡ signed_decimal b.seconds → signed_decimal a.nanoseconds ≡ signed_decimal b.nanoseconds → a ≡ b
same_time a b p q s n =
    ap (λ x. time_of x a.nanoseconds) (signed_same a.seconds b.seconds p.seconds q.seconds s)
    ∙ ap (λ x. time_of b.seconds x) (signed_same a.nanoseconds b.nanoseconds p.nanoseconds q.nanoseconds n)

abbrev word : ℕ → List (List ℕ) → List ℕ
word n [] = []
word zero (w ∷ ws) = w
word (suc n) (w ∷ ws) = word n ws

module _ {most : ℕ} (name : List ℕ) (is_name : IsWord name) where
  lines : (a : FileMarks most) (r : List ℕ) → spec.marks_text name a ++ r ≡ spec.place_line name a ++ (spec.times_line a ++ (spec.head_line a.head ++ r))
  lines a r =
      append_assoc (spec.place_line name a ++ spec.times_line a) (spec.head_line a.head) r
      ∙ append_assoc (spec.place_line name a) (spec.times_line a) (spec.head_line a.head ++ r)

  abbrev place : FileMarks most → List (List ℕ)
  place a = codes "device" ∷ decimal a.device ∷ codes "inode" ∷ decimal a.inode ∷ codes "size" ∷ decimal a.size ∷ []

  abbrev times : FileMarks most → List (List ℕ)
  times a = signed_decimal a.modified.seconds ∷ signed_decimal a.modified.nanoseconds ∷ codes "changed" ∷ signed_decimal a.changed.seconds ∷ signed_decimal a.changed.nanoseconds ∷ []

  place_words : (a : FileMarks most) → spec.AreMarks a → AreWords (name ∷ place a)
  place_words a h = (is_name, (omega arith, (decimal_word a.device h.device, (omega arith, (decimal_word a.inode h.inode, (omega arith, (decimal_word a.size h.size, tt)))))))

  times_words : (a : FileMarks most) → spec.AreMarks a → AreWords (codes "modified" ∷ times a)
  times_words a h = (omega arith, (signed_word a.modified.seconds h.modified.seconds, (signed_word a.modified.nanoseconds h.modified.nanoseconds, (omega arith, (signed_word a.changed.seconds h.changed.seconds, (signed_word a.changed.nanoseconds h.changed.nanoseconds, tt))))))

  head_words : (a : FileMarks most) → AreWords (codes "head" ∷ spec.hex a.head ∷ [])
  head_words a = (omega arith, (hex_word a.head, tt))

  abbrev marks_of : ℕ → ℕ → ℕ → FileTime → FileTime → List ℕ → FileMarks most
  marks_of device inode size modified changed head = record { device = device; inode = inode; size = size; modified = modified; changed = changed; head = head }

  same_marks : (a b : FileMarks most) (r s : List ℕ) → spec.AreMarks a → spec.AreMarks b → spec.marks_text name a ++ r ≡ spec.marks_text name b ++ s → (a ≡ b) × (r ≡ s)
  same_marks a b r s p q e =
      let is_place = same_line name name (place a) (place b) _ _ (place_words a p) (place_words b q) (sym (lines a r) ∙ e ∙ lines b s) in
      let are_times = same_line (codes "modified") (codes "modified") (times a) (times b) _ _ (times_words a p) (times_words b q) is_place.1 in
      let is_head = same_line (codes "head") (codes "head") (spec.hex a.head ∷ []) (spec.hex b.head ∷ []) _ _ (head_words a) (head_words b) are_times.1 in
      let device = decimal_injective a.device b.device p.device q.device (ap (word 2) is_place.0) in
      let inode = decimal_injective a.inode b.inode p.inode q.inode (ap (word 4) is_place.0) in
      let size = decimal_injective a.size b.size p.size q.size (ap (word 6) is_place.0) in
      let modified = same_time a.modified b.modified p.modified q.modified (ap (word 1) are_times.0) (ap (word 2) are_times.0) in
      let changed = same_time a.changed b.changed p.changed q.changed (ap (word 4) are_times.0) (ap (word 5) are_times.0) in
      let bytes = hex_same a.head b.head p.head q.head (ap (word 1) is_head.0) in (
        ap (λ x. marks_of x a.inode a.size a.modified a.changed a.head) device
            ∙ ap (λ x. marks_of b.device x a.size a.modified a.changed a.head) inode
            ∙ ap (λ x. marks_of b.device b.inode x a.modified a.changed a.head) size
            ∙ ap (λ x. marks_of b.device b.inode b.size x a.changed a.head) modified
            ∙ ap (λ x. marks_of b.device b.inode b.size b.modified x a.head) changed
            ∙ ap (λ x. marks_of b.device b.inode b.size b.modified b.changed x) bytes,
        is_head.1,
      )

same_log : (a b : Option (FileMarks 32)) → IfSome a (λ log. spec.AreMarks log) → IfSome b (λ log. spec.AreMarks log) → spec.log_text a ≡ spec.log_text b → a ≡ b
same_log None None p q e = refl
same_log None (Some b) p q e = absurd (omega (arith, ap (head 0) e))
same_log (Some a) None p q e = absurd (omega (arith, ap (head 0) e))
same_log (Some a) (Some b) p q e =
    ap (λ x. Some x) (same_marks (codes "log") (omega arith) a b [] [] p q (append-nil _ ∙ e ∙ sym (append-nil _))).0

abbrev seen_of : FileMarks 100 → Option (FileMarks 32) → Seen
seen_of store log = record { store = store; log = log }

pub same_seen : (a b : Seen) → spec.IsSeen a → spec.IsSeen b → spec.text a ≡ spec.text b → a ≡ b
same_seen a b p q e =
    let version = codes "muni seal 2\n" in
    let name = codes "store" in
    let rest = append_cancel_left version _ _
    (sym (append_assoc version (spec.marks_text name a.store) (spec.log_text a.log)) ∙ e ∙ append_assoc version (spec.marks_text name b.store) (spec.log_text b.log)) in
    let store = same_marks name (omega arith) a.store b.store (spec.log_text a.log) (spec.log_text b.log) p.store q.store rest in
    let log = same_log a.log b.log p.log q.log store.1 in
    ap (λ x. seen_of x a.log) store.0 ∙ ap (λ x. seen_of b.store x) log

pub of_recorded : (recorded seen : Seen) (sealed : List ℕ) (made : FileTime) (result : Bool) → (IsTrue result ↔ ((sealed ≡ spec.text seen) × AreUntouchedSince made seen)) → spec.IsSeen recorded → spec.IsSeen seen → sealed ≡ spec.text recorded → IsTrue result ↔ ((recorded ≡ seen) × AreUntouchedSince made recorded)
of_recorded recorded seen sealed made result is_of p q e = (
  λ t. let h = is_of.0 t in
      let same = same_seen recorded seen p q (sym e ∙ h.0) in
      (same, subst (AreUntouchedSince made) (sym same) h.1),
  λ h. is_of.1 (e ∙ ap spec.text h.0, subst (AreUntouchedSince made) h.0 h.1),
)
