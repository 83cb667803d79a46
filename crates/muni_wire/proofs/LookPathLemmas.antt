-- The paths under which looks at the tables are made.
use Rattle.std.proofs.Common.{◌≡◌, ◌⊎◌, inl, inr, option_map, ◌+◌, ◌==◌, ◌&&◌, ℕ, suc, List, ◌∷◌, ◌++◌, length, take, drop, get_or, codes, Bool, true, false, cond, Option, Some, None, position, sym, ap, subst, ◌∙◌, arith}
use Rattle.std.specs.Char.{is_ascii_alphanumeric}
use Rattle.std.specs.List.{list_all}
use Rattle.std.specs.Option.{option_or}
use Rattle.std.specs.Result.{result_ok}
use Rattle.std.proofs.Math.Seq.{split_at, take-append_seam, drop-append-add}
use Rattle.std.proofs.lemmas.Bool.Decides.{nat_tests}
use Rattle.std.proofs.lemmas.List.Quantifiers.{position-Some}
use Rattle.muni_rule.specs.Cusip.{is_cusip_character}
use Rattle.muni_msg.specs.Fields.{◌>>=◌, version_number}
use Rattle.muni_msg.specs.IssueFields.{cusip_reading}
use Rattle.muni_msg.specs.Names.{is_desk_letter}
use Rattle.muni_msg.specs.NameReading.{name_reading}
use Rattle.muni_msg.specs.declared.command.Command.TheVariants.{Confirm}
use Rattle.muni_msg.specs.declared.command.Key.{Key}
use Rattle.muni_wire.specs.PathLaws.{IsKey, IsPathOf}
use Rattle.muni_wire.specs.Routes.{target_of, of_book_at, look_at, look_of, list_at, list_after_at, issue_at, version_at, positions_at, latest_at, parts_of, key_of, key_at, behind}
use Rattle.muni_wire_body.specs.declared.look.Look.{Look}
use Rattle.muni_wire_body.specs.declared.look.Look.TheVariants as look
use Rattle.muni_wire_body.specs.declared.look.Request.TheVariants.{Book, Look as LookAt}
use Rattle.muni_wire.specs.declared.routes.Target.{Target}
use Rattle.muni_wire.specs.declared.routes.Target.TheVariants as target
use Rattle.muni_wire.proofs.PathLemmas as path
use Rattle.muni_wire.proofs.PathLemmas.{IsOneOf, both-there, either, is-behind, is-name}
use Rattle.muni_wire.proofs.FoundPathLemmas.{IsPart, read-both, name-part, name-read, desk-letter, reference-letter, slash-position, unread, not-part}

-- ---- a look is made under its path alone

-- the book is asked for no look
not-of-book : (p : List ℕ) (l : Look) → IsOneOf p (target.Get (LookAt l)) → ⊥
not-of-book p l (inl e) = cc (path.no-post p (target.Get (LookAt l)) e).2
not-of-book p l (inr (inl e)) = cc (path.no-trade p (target.Get (LookAt l)) e).1
not-of-book p l (inr (inr (inl e))) = cc (path.no-list p (target.Get (LookAt l)) e).1
not-of-book p l (inr (inr (inr e))) = cc (path.no-list-after p (target.Get (LookAt l)) e).1

look-found : (p : List ℕ) (l : Look) → (of_book_at p ≡ Some (target.Get (LookAt l))) ⊎ (look_at p ≡ Some (target.Get (LookAt l))) → look_of p ≡ Some l
look-found p l (inl e) = absurd (not-of-book p l (path.of-book p (target.Get (LookAt l)) e))
look-found p l (inr e) =
    let found = path.no-look (look_of p) (target.Get (LookAt l)) e in
    let same : l ≡ found.0 = cc found.2 in
    found.1 ∙ ap Some (sym same)

same-text : (b : Bool) (text cusip : List ℕ) → cond b (Some text) None ≡ Some cusip → text ≡ cusip
same-text true text cusip e = cc e
same-text false text cusip e = cc e

cusip-is : (text cusip : List ℕ) → cusip_reading text ≡ Some cusip → text ≡ cusip
cusip-is text cusip e = same-text ((length text == 9) && list_all is_cusip_character text) text cusip e

issue-path : (p : List ℕ) (l : Look) → issue_at p ≡ Some l → IsPathOf l p
issue-path p l e =
    let first = both-there (behind (codes "/issues/") p) (λ text. cusip_reading text >>= λ cusip. Some (look.Issue cusip)) l e in
    let second = both-there (cusip_reading first.0) (λ cusip. Some (look.Issue cusip)) l first.2 in
    let same : look.Issue second.0 ≡ l = cc second.2 in
    let is = cusip-is first.0 second.0 second.1 in
    subst (λ l. IsPathOf l p) same
    (subst (λ text. cusip_reading text ≡ Some second.0) is second.1, is-behind (codes "/issues/") p first.0 first.1 ∙ ap (λ text. codes "/issues/" ++ text) is)

parts-there : (text : List ℕ) (parts : List ℕ × List ℕ) → parts_of text ≡ Some parts → text ≡ parts.0 ++ 47 ∷ parts.1
parts-there text parts e =
    let found = both-there (position (λ b. b == 47) text) (λ at. Some (take at text, drop (at + 1) text)) parts e in
    let at = found.0 in
    let here = position-Some (λ b. b == 47) text at 0 found.1 in
    let next : suc at ≡ at + 1 = omega arith in
    let split = rw next at (split_at text at 0 here.0) in
    let slash : get_or text at 0 ≡ 47 = grind (arith, nat_tests, here.1) in
    let front : take at text ≡ parts.0 = cc (ap (λ o. o >>= λ (p : List ℕ × List ℕ). Some p.0) found.2) in
    let last : drop (at + 1) text ≡ parts.1 = cc (ap (λ o. o >>= λ (p : List ℕ × List ℕ). Some p.1) found.2) in
    split ∙ ap (λ b. take at text ++ b ∷ drop (at + 1) text) slash ∙ ap (λ l. l ++ 47 ∷ drop (at + 1) text) front ∙ ap (λ l. parts.0 ++ 47 ∷ l) last

-- the look at a version, if its parts read
of_parts : List ℕ → List ℕ → List ℕ → Option Look
of_parts desk reference number =
    result_ok (name_reading is_desk_letter 16 desk) >>= λ desk.
    result_ok (name_reading is_ascii_alphanumeric 20 reference) >>= λ reference.
    version_number number >>= λ number.
    Some (look.Version (record { desk = desk; reference = reference }) number)

version-path : (p : List ℕ) (l : Look) → version_at p ≡ Some l → IsPathOf l p
unfolding of_parts
version-path p l e =
    let whole = both-there (behind (codes "/trades/") p) (λ text. parts_of text >>= λ first. parts_of first.1 >>= λ second. of_parts first.0 second.0 second.1) l e in
    let first = both-there (parts_of whole.0) (λ first. parts_of first.1 >>= λ second. of_parts first.0 second.0 second.1) l whole.2 in
    let second = both-there (parts_of first.0.1) (λ second. of_parts first.0.0 second.0 second.1) l first.2 in
    let desk = both-there (result_ok (name_reading is_desk_letter 16 first.0.0)) (λ desk. result_ok (name_reading is_ascii_alphanumeric 20 second.0.0) >>= λ reference. version_number second.0.1 >>= λ number. Some (look.Version (record { desk = desk; reference = reference }) number)) l second.2 in
    let reference = both-there (result_ok (name_reading is_ascii_alphanumeric 20 second.0.0)) (λ reference. version_number second.0.1 >>= λ number. Some (look.Version (record { desk = desk.0; reference = reference }) number)) l desk.2 in
    let number = both-there (version_number second.0.1) (λ number. Some (look.Version (record { desk = desk.0; reference = reference.0 }) number)) l reference.2 in
    let same : look.Version (record { desk = desk.0; reference = reference.0 }) number.0 ≡ l = cc number.2 in
    let is_key : IsKey (record { desk = desk.0; reference = reference.0 }) = record {
      desk = is-name is_desk_letter 16 first.0.0 desk.0 desk.1;
      reference = is-name is_ascii_alphanumeric 20 second.0.0 reference.0 reference.1;
    } in
    subst (λ l. IsPathOf l p) same (
      is_key,
      second.0.1,
      number.1,
      is-behind (codes "/trades/") p whole.0 whole.1
          ∙ ap (λ l. codes "/trades/" ++ l) (parts-there whole.0 first.0 first.1
          ∙ ap (λ l. l ++ 47 ∷ first.0.1) (path.name-read is_desk_letter 16 first.0.0 desk.0 desk.1)
          ∙ ap (λ l. desk.0 ++ 47 ∷ l) (parts-there first.0.1 second.0 second.1 ∙ ap (λ l. l ++ 47 ∷ second.0.1) (path.name-read is_ascii_alphanumeric 20 second.0.0 reference.0 reference.1))),
    )

positions-path : (p : List ℕ) (l : Look) → positions_at p ≡ Some l → IsPathOf l p
positions-path p l e =
    let first = both-there (behind (codes "/positions/") p) (λ text. result_ok (name_reading is_desk_letter 16 text) >>= λ desk. Some (look.Positions desk)) l e in
    let second = both-there (result_ok (name_reading is_desk_letter 16 first.0)) (λ desk. Some (look.Positions desk)) l first.2 in
    let same : look.Positions second.0 ≡ l = cc second.2 in
    subst (λ l. IsPathOf l p) same (
      is-name is_desk_letter 16 first.0 second.0 second.1,
      is-behind (codes "/positions/") p first.0 first.1 ∙ ap (λ l. codes "/positions/" ++ l) (path.name-read is_desk_letter 16 first.0 second.0 second.1),
    )

latest-path : (p : List ℕ) (l : Look) → latest_at p ≡ Some l → IsPathOf l p
latest-path p l e =
    let first = both-there (behind (codes "/latest/") p) (λ text. result_ok (name_reading is_desk_letter 16 text) >>= λ desk. Some (look.Latest desk)) l e in
    let second = both-there (result_ok (name_reading is_desk_letter 16 first.0)) (λ desk. Some (look.Latest desk)) l first.2 in
    let same : look.Latest second.0 ≡ l = cc second.2 in
    subst (λ l. IsPathOf l p) same (
      is-name is_desk_letter 16 first.0 second.0 second.1,
      is-behind (codes "/latest/") p first.0 first.1 ∙ ap (λ l. codes "/latest/" ++ l) (path.name-read is_desk_letter 16 first.0 second.0 second.1),
    )

pub one-path : (p : List ℕ) (l : Look) → look_of p ≡ Some l → IsPathOf l p
unfolding look_of
one-path p l e = by (either (issue_at p) (option_or (version_at p) (option_or (positions_at p) (latest_at p))) l e)
  where
    last : (positions_at p ≡ Some l) ⊎ (latest_at p ≡ Some l) → IsPathOf l p
    last (inl e) = positions-path p l e
    last (inr e) = latest-path p l e

    next : (version_at p ≡ Some l) ⊎ (option_or (positions_at p) (latest_at p) ≡ Some l) → IsPathOf l p
    next (inl e) = version-path p l e
    next (inr e) = last (either (positions_at p) (latest_at p) l e)

    by : (issue_at p ≡ Some l) ⊎ (option_or (version_at p) (option_or (positions_at p) (latest_at p)) ≡ Some l) → IsPathOf l p
    by (inl e) = issue-path p l e
    by (inr e) = next (either (version_at p) (option_or (positions_at p) (latest_at p)) l e)

pub looks-have-paths : (p : List ℕ) (l : Look) → target_of p ≡ Some (target.Get (LookAt l)) → IsPathOf l p
unfolding target_of
looks-have-paths p l e = one-path p l (look-found p l (either (of_book_at p) (look_at p) (target.Get (LookAt l)) e))

-- ---- and it is made under it

parts-read : (front rest : List ℕ) → IsPart front → parts_of (front ++ 47 ∷ rest) ≡ Some (front, rest)
parts-read front rest part =
    let text = front ++ 47 ∷ rest in
    ap (λ o. o >>= λ slash. Some (take slash text, drop (slash + 1) text)) (slash-position front rest part)
    ∙ ap (λ l. Some (l, drop (length front + 1) text)) (take-append_seam front (47 ∷ rest))
    ∙ ap (λ l. Some (front, l)) (drop-append-add front (47 ∷ rest) 1)

-- a reference, a slash and more are no reference
no-reference : (reference rest : List ℕ) → result_ok (name_reading is_ascii_alphanumeric 20 (reference ++ 47 ∷ rest)) ≡ None
no-reference reference rest =
    let text = reference ++ 47 ∷ rest in
    unread (result_ok (name_reading is_ascii_alphanumeric 20 text))
    (λ name e. not-part reference rest (name-part is_ascii_alphanumeric 20 text reference-letter (path.text-is-name is_ascii_alphanumeric 20 text name e)))

key-unread : (key : Key) (rest : List ℕ) → IsKey key → key_of (key.desk ++ 47 ∷ (key.reference ++ 47 ∷ rest)) ≡ None
unfolding key_of
key-unread key rest is =
    let more = key.reference ++ 47 ∷ rest in
    let text = key.desk ++ 47 ∷ more in
    ap (λ o. o >>= λ slash. key_at text slash) (slash-position key.desk more (name-part is_desk_letter 16 key.desk desk-letter is.desk))
    ∙ ap (λ d. read-both d (drop (length key.desk + 1) text)) (take-append_seam key.desk (47 ∷ more))
    ∙ ap (λ r. read-both key.desk r) (drop-append-add key.desk (47 ∷ more) 1)
    ∙ ap (λ d. result_ok d >>= λ desk. result_ok (name_reading is_ascii_alphanumeric 20 more) >>= λ reference. Some (record { desk = desk; reference = reference }))
    (name-read is_desk_letter 16 key.desk is.desk)
    ∙ ap (λ r. r >>= λ reference. Some (record { desk = key.desk; reference = reference })) (no-reference key.reference rest)

parts-look : (key : Key) (text : List ℕ) (number : ℕ) → IsKey key → version_number text ≡ Some number → of_parts key.desk key.reference text ≡ Some (look.Version key number)
unfolding of_parts
parts-look key text number is read =
    ap (λ d. result_ok d >>= λ desk. result_ok (name_reading is_ascii_alphanumeric 20 key.reference) >>= λ reference. version_number text >>= λ number. Some (look.Version (record { desk = desk; reference = reference }) number))
    (name-read is_desk_letter 16 key.desk is.desk)
    ∙ ap (λ r. result_ok r >>= λ reference. version_number text >>= λ number. Some (look.Version (record { desk = key.desk; reference = reference }) number))
    (name-read is_ascii_alphanumeric 20 key.reference is.reference)
    ∙ ap (λ n. n >>= λ number. Some (look.Version key number)) read

-- a look as a target
made : Option Look → Option Target
made found = option_map (λ look. target.Get (LookAt look)) found

version-made : (key : Key) (text : List ℕ) (number : ℕ) → IsKey key → version_number text ≡ Some number
    → target_of (codes "/trades/" ++ (key.desk ++ 47 ∷ (key.reference ++ 47 ∷ text))) ≡ Some (target.Get (LookAt (look.Version key number)))
unfolding target_of of_book_at look_of of_parts made
version-made key text number is read =
    let more = key.reference ++ 47 ∷ text in
    let p = codes "/trades/" ++ (key.desk ++ 47 ∷ more) in
    ap (λ o. option_or (option_or (o >>= λ k. Some (target.Get (Book (Confirm k)))) (option_or (list_at p) (list_after_at p))) (look_at p)) (key-unread key text is)
    ∙ ap (λ o. made (option_or (o >>= λ first. parts_of first.1 >>= λ second. of_parts first.0 second.0 second.1) (option_or (positions_at p) (latest_at p))))
    (parts-read key.desk more (name-part is_desk_letter 16 key.desk desk-letter is.desk))
    ∙ ap (λ o. made (option_or (o >>= λ second. of_parts key.desk second.0 second.1) (option_or (positions_at p) (latest_at p))))
    (parts-read key.reference text (name-part is_ascii_alphanumeric 20 key.reference reference-letter is.reference))
    ∙ ap (λ o. made (option_or o (option_or (positions_at p) (latest_at p)))) (parts-look key text number is read)

pub each-look-is-made : (p : List ℕ) (l : Look) → IsPathOf l p → target_of p ≡ Some (target.Get (LookAt l))
unfolding target_of of_book_at look_of made
each-look-is-made p (look.Issue cusip) is =
    let q = codes "/issues/" ++ cusip in
    ap target_of is.1
    ∙ ap (λ o. made (option_or (o >>= λ c. Some (look.Issue c)) (option_or (version_at q) (option_or (positions_at q) (latest_at q))))) is.0
each-look-is-made p (look.Version key number) is = ap target_of is.3 ∙ version-made key is.1 number is.0 is.2
each-look-is-made p (look.Positions desk) is =
    let q = codes "/positions/" ++ desk in
    ap target_of is.1
    ∙ ap (λ o. made (option_or (result_ok o >>= λ d. Some (look.Positions d)) (latest_at q))) (name-read is_desk_letter 16 desk is.0)
each-look-is-made p (look.Latest desk) is =
    ap target_of is.1
    ∙ ap (λ o. made (result_ok o >>= λ d. Some (look.Latest d))) (name-read is_desk_letter 16 desk is.0)
