-- What a path is that leads to a request.
use Rattle.std.proofs.Common.{◌≡◌, ◌⊎◌, inl, inr, find, option_map, [], ◌+◌, ◌==◌, nat_lt, not, ℕ, suc, List, ◌∷◌, ◌++◌, length, take, drop, get_or, codes, bytes_eq, Bool, true, false, cond, Option, Some, None, Result, Err, position, refl, sym, ap, subst, ◌∙◌, arith}
use Rattle.std.specs.Char.{is_ascii_alphanumeric}
use Rattle.std.specs.Option.{option_or}
use Rattle.std.specs.Result.{result_ok}
use Rattle.std.proofs.Math.Seq.{split_at}
use Rattle.std.proofs.lemmas.Bool.Decides.{nat_tests}
use Rattle.std.proofs.lemmas.List.{take-append-drop}
use Rattle.std.proofs.lemmas.List.Quantifiers.{position-Some}
use Rattle.std.proofs.lemmas.Slice.Eq.{bytes_eq-Decides}
use Rattle.muni_msg.specs.Fields.{◌>>=◌}
use Rattle.muni_msg.specs.Names.{IsName, is_desk_letter}
use Rattle.muni_msg.specs.NameReading.{name_reading, unless_bad}
use Rattle.muni_msg.specs.declared.names.NameFault.{NameFault}
use Rattle.muni_msg.specs.declared.names.NameFault.TheVariants.{Empty, TooLong}
use Rattle.muni_msg.specs.declared.command.Command.TheVariants.{Confirm, List as ListTrades}
use Rattle.muni_msg.specs.declared.command.Key.{Key}
use Rattle.muni_wire.specs.Routes.{target_of, of_book_at, look_at, look_of, post_at, trade_at, list_at, list_after_at, behind, key_of, key_at, form_of, forms, posted_under}
use Rattle.muni_wire.specs.PathLaws.{IsKey, BodiesArePosted}
use Rattle.muni_wire_body.specs.declared.look.Look.{Look}
use Rattle.muni_wire_body.specs.declared.look.Request.TheVariants.{Book, Look as LookAt}
use Rattle.muni_wire_body.specs.declared.form.Form.{Form}
use Rattle.muni_wire.specs.declared.routes.Target.{Target}
use Rattle.muni_wire.specs.declared.routes.Target.TheVariants as target

-- a name that reads is the text
unless-read : (text name : List ℕ) (bad : Option ℕ) → result_ok (unless_bad text bad) ≡ Some name → text ≡ name
unless-read text name None e = cc e
unless-read text name (Some place) e = cc e

short-read : (b : Bool) (fault : NameFault) (rest : Result (List ℕ) NameFault) (text name : List ℕ)
    → (result_ok rest ≡ Some name → text ≡ name) → result_ok (cond b (Err fault) rest) ≡ Some name → text ≡ name
short-read true fault rest text name read e = cc e
short-read false fault rest text name read e = read e

pub name-read : (is_letter : ℕ → Bool) (most : ℕ) (text name : List ℕ) → result_ok (name_reading is_letter most text) ≡ Some name → text ≡ name
name-read is_letter most text name e =
    let bad = position (λ b. not (is_letter b)) text in
    let few = cond (nat_lt most (length text)) (Err TooLong) (unless_bad text bad) in
    short-read (length text == 0) Empty few text name (short-read (nat_lt most (length text)) TooLong (unless_bad text bad) text name (unless-read text name bad)) e

-- and is a name
unless-none : (text name : List ℕ) (bad : Option ℕ) → result_ok (unless_bad text bad) ≡ Some name → bad ≡ None
unless-none text name None e = refl
unless-none text name (Some place) e = cc e

passed : (b : Bool) (fault : NameFault) (rest : Result (List ℕ) NameFault) (name : List ℕ) → result_ok (cond b (Err fault) rest) ≡ Some name → (b ≡ false) × (result_ok rest ≡ Some name)
passed true fault rest name e = cc e
passed false fault rest name e = (refl, e)

pub text-is-name : (is_letter : ℕ → Bool) (most : ℕ) (text name : List ℕ) → result_ok (name_reading is_letter most text) ≡ Some name → IsName is_letter most text
text-is-name is_letter most text name e =
    let bad = position (λ b. not (is_letter b)) text in
    let some = passed (length text == 0) Empty (cond (nat_lt most (length text)) (Err TooLong) (unless_bad text bad)) name e in
    let few = passed (nat_lt most (length text)) TooLong (unless_bad text bad) name some.1 in
    record { some = grind (arith, nat_tests, some.0); few = grind (arith, nat_tests, few.0); letters = unless-none text name bad few.1 }

pub is-name : (is_letter : ℕ → Bool) (most : ℕ) (text name : List ℕ) → result_ok (name_reading is_letter most text) ≡ Some name → IsName is_letter most name
is-name is_letter most text name e = subst (IsName is_letter most) (name-read is_letter most text name e) (text-is-name is_letter most text name e)

-- what comes after a prefix
behind-by : (b : Bool) (prefix text rest : List ℕ) → bytes_eq (take (length prefix) text) prefix ≡ b → cond b (Some (drop (length prefix) text)) None ≡ Some rest → text ≡ prefix ++ rest
behind-by true prefix text rest is e =
    let front : take (length prefix) text ≡ prefix = grind (arith, bytes_eq-Decides (take (length prefix) text) prefix, is) in
    let last : drop (length prefix) text ≡ rest = cc e in
    sym (take-append-drop (length prefix) text) ∙ ap (λ l. l ++ drop (length prefix) text) front ∙ ap (λ l. prefix ++ l) last
behind-by false prefix text rest is e = cc e

pub is-behind : (prefix text rest : List ℕ) → behind prefix text ≡ Some rest → text ≡ prefix ++ rest
is-behind prefix text rest e = behind-by (bytes_eq (take (length prefix) text) prefix) prefix text rest refl e

-- a desk, a slash and a reference
both-read : (d r : Option (List ℕ)) (key : Key) → (d >>= λ desk. r >>= λ reference. Some (record { desk = desk; reference = reference })) ≡ Some key
    → (d ≡ Some key.desk) × (r ≡ Some key.reference)
both-read None r key e = cc e
both-read (Some d) None key e = cc e
both-read (Some d) (Some r) key e = (ap Some (cc (ap (λ o. o >>= λ k. Some k.desk) e)), ap Some (cc (ap (λ o. o >>= λ k. Some k.reference) e)))

key-parts : (text : List ℕ) (slash : Option ℕ) (key : Key) → position (λ b. b == 47) text ≡ slash → (slash >>= λ at. key_at text at) ≡ Some key
    → IsKey key × (text ≡ key.desk ++ 47 ∷ key.reference)
key-parts text None key is e = cc e
key-parts text (Some at) key is e =
    let found = position-Some (λ b. b == 47) text at 0 is in
    let next : suc at ≡ at + 1 = omega arith in
    let split = rw next at (split_at text at 0 found.0) in
    let slash : get_or text at 0 ≡ 47 = grind (arith, nat_tests, found.1) in
    let read = both-read _ _ key e in
    let desk = name-read is_desk_letter 16 (take at text) key.desk read.0 in
    let reference = name-read is_ascii_alphanumeric 20 (drop (at + 1) text) key.reference read.1 in
    let is_key : IsKey key = record {
      desk = is-name is_desk_letter 16 (take at text) key.desk read.0;
      reference = is-name is_ascii_alphanumeric 20 (drop (at + 1) text) key.reference read.1;
    } in
    (is_key, split ∙ ap (λ b. take at text ++ b ∷ drop (at + 1) text) slash ∙ ap (λ l. l ++ 47 ∷ drop (at + 1) text) desk ∙ ap (λ l. key.desk ++ 47 ∷ l) reference)

is-key : (text : List ℕ) (key : Key) → key_of text ≡ Some key → IsKey key × (text ≡ key.desk ++ 47 ∷ key.reference)
unfolding key_of
is-key text key e = key-parts text (position (λ b. b == 47) text) key refl e

-- a chain of two that ends
pub both-there : {A B : Type 0} (o : Option A) (f : A → Option B) (b : B) → (o >>= f) ≡ Some b → (a : A) × (o ≡ Some a) × (f a ≡ Some b)
both-there None f b e = cc e
both-there (Some a) f b e = (a, refl, e)

pub trade-path : (path : List ℕ) (key : Key) → trade_at path ≡ Some (target.Get (Book (Confirm key))) → IsKey key × (path ≡ codes "/trades/" ++ (key.desk ++ 47 ∷ key.reference))
trade-path path key e =
    let first = both-there (behind (codes "/trades/") path) (λ text. key_of text >>= λ k. Some (target.Get (Book (Confirm k)))) (target.Get (Book (Confirm key))) e in
    let second = both-there (key_of first.0) (λ k. Some (target.Get (Book (Confirm k)))) (target.Get (Book (Confirm key))) first.2 in
    let same : second.0 ≡ key = cc second.2 in
    let is = is-key first.0 key (second.1 ∙ ap Some same) in
    (is.0, is-behind (codes "/trades/") path first.0 first.1 ∙ ap (λ l. codes "/trades/" ++ l) is.1)

pub list-path : (path desk : List ℕ) → list_at path ≡ Some (target.Get (Book (ListTrades desk None))) → IsName is_desk_letter 16 desk × (path ≡ codes "/lists/" ++ desk)
list-path path desk e =
    let first = both-there (behind (codes "/lists/") path) (λ text. result_ok (name_reading is_desk_letter 16 text) >>= λ d. Some (target.Get (Book (ListTrades d None)))) (target.Get (Book (ListTrades desk None))) e in
    let second = both-there (result_ok (name_reading is_desk_letter 16 first.0)) (λ d. Some (target.Get (Book (ListTrades d None)))) (target.Get (Book (ListTrades desk None))) first.2 in
    let same : second.0 ≡ desk = cc second.2 in
    let read = second.1 ∙ ap Some same in
    (is-name is_desk_letter 16 first.0 desk read, is-behind (codes "/lists/") path first.0 first.1 ∙ ap (λ l. codes "/lists/" ++ l) (name-read is_desk_letter 16 first.0 desk read))

pub list-after-path : (path desk after : List ℕ) → list_after_at path ≡ Some (target.Get (Book (ListTrades desk (Some after))))
    → IsName is_desk_letter 16 desk × IsName is_ascii_alphanumeric 20 after × (path ≡ codes "/lists/" ++ (desk ++ 47 ∷ after))
list-after-path path desk after e =
    let first = both-there (behind (codes "/lists/") path) (λ text. key_of text >>= λ k. Some (target.Get (Book (ListTrades k.desk (Some k.reference))))) (target.Get (Book (ListTrades desk (Some after)))) e in
    let second = both-there (key_of first.0) (λ k. Some (target.Get (Book (ListTrades k.desk (Some k.reference))))) (target.Get (Book (ListTrades desk (Some after)))) first.2 in
    let same_desk : second.0.desk ≡ desk = cc second.2 in
    let same_after : second.0.reference ≡ after = cc second.2 in
    let is = is-key first.0 second.0 second.1 in (
      subst (IsName is_desk_letter 16) same_desk is.0.desk,
      subst (IsName is_ascii_alphanumeric 20) same_after is.0.reference,
      is-behind (codes "/lists/") path first.0 first.1
          ∙ ap (λ l. codes "/lists/" ++ l) (is.1 ∙ ap (λ l. l ++ 47 ∷ second.0.reference) same_desk ∙ ap (λ l. desk ++ 47 ∷ l) same_after),
    )

-- which command each route may give
pub no-trade : (path : List ℕ) (c : Target) → trade_at path ≡ Some c → (key : Key) × (c ≡ target.Get (Book (Confirm key)))
no-trade path c e =
    let first = both-there (behind (codes "/trades/") path) (λ text. key_of text >>= λ k. Some (target.Get (Book (Confirm k)))) c e in
    let second = both-there (key_of first.0) (λ k. Some (target.Get (Book (Confirm k)))) c first.2 in
    (second.0, cc second.2)

pub no-list : (path : List ℕ) (c : Target) → list_at path ≡ Some c → (desk : List ℕ) × (c ≡ target.Get (Book (ListTrades desk None)))
no-list path c e =
    let first = both-there (behind (codes "/lists/") path) (λ text. result_ok (name_reading is_desk_letter 16 text) >>= λ d. Some (target.Get (Book (ListTrades d None)))) c e in
    let second = both-there (result_ok (name_reading is_desk_letter 16 first.0)) (λ d. Some (target.Get (Book (ListTrades d None)))) c first.2 in
    (second.0, cc second.2)

pub no-list-after : (path : List ℕ) (c : Target) → list_after_at path ≡ Some c → (k : Key) × (c ≡ target.Get (Book (ListTrades k.desk (Some k.reference))))
no-list-after path c e =
    let first = both-there (behind (codes "/lists/") path) (λ text. key_of text >>= λ k. Some (target.Get (Book (ListTrades k.desk (Some k.reference))))) c e in
    let second = both-there (key_of first.0) (λ k. Some (target.Get (Book (ListTrades k.desk (Some k.reference))))) c first.2 in
    (second.0, cc second.2)

pub no-post : (path : List ℕ) (c : Target) → post_at path ≡ Some c → (form : Form) × (form_of path ≡ Some form) × (c ≡ target.Post form)
no-post path c e = by (form_of path) refl e
  where
    by : (o : Option Form) → form_of path ≡ o → option_map (λ form. target.Post form) o ≡ Some c → (form : Form) × (form_of path ≡ Some form) × (c ≡ target.Post form)
    by None is e = cc e
    by (Some form) is e = (form, is, cc e)

-- the one of them that a path is
pub either : {A : Type 0} (a b : Option A) (c : A) → option_or a b ≡ Some c → (a ≡ Some c) ⊎ (b ≡ Some c)
either None b c e = inr e
either (Some a) b c e = inl e

abbrev pub IsOneOf : List ℕ → Target → Type 0
IsOneOf path c = (post_at path ≡ Some c) ⊎ (trade_at path ≡ Some c) ⊎ (list_at path ≡ Some c) ⊎ (list_after_at path ≡ Some c)

later : {A B C : Type 0} → A ⊎ B → (B → C) → A ⊎ C
later (inl a) next = inl a
later (inr b) next = inr (next b)

pub of-book : (path : List ℕ) (c : Target) → of_book_at path ≡ Some c → IsOneOf path c
unfolding of_book_at
of-book path c e =
    later (either (post_at path) (option_or (trade_at path) (option_or (list_at path) (list_after_at path))) c e)
    (λ e. later (either (trade_at path) (option_or (list_at path) (list_after_at path)) c e)
    (λ e. either (list_at path) (list_after_at path) c e))

-- a look at the tables is what the book is asked under no path
pub no-look : (found : Option Look) (c : Target) → option_map (λ look. target.Get (LookAt look)) found ≡ Some c → (look : Look) × (found ≡ Some look) × (c ≡ target.Get (LookAt look))
no-look None c e = cc e
no-look (Some look) c e = (look, refl, cc e)

one-of : (path : List ℕ) (c : Target) → ((look : Look) → c ≡ target.Get (LookAt look) → ⊥) → target_of path ≡ Some c → IsOneOf path c
unfolding target_of
one-of path c none e =
    by (either (of_book_at path) (look_at path) c e)
  where
    by : (of_book_at path ≡ Some c) ⊎ (look_at path ≡ Some c) → IsOneOf path c
    by (inl e) = of-book path c e
    by (inr e) = let found = no-look (look_of path) c e in absurd (none found.0 found.2)

confirms : (path : List ℕ) (key : Key) → IsOneOf path (target.Get (Book (Confirm key))) → IsKey key × (path ≡ codes "/trades/" ++ (key.desk ++ 47 ∷ key.reference))
confirms path key (inl e) = cc (no-post path (target.Get (Book (Confirm key))) e).2
confirms path key (inr (inl e)) = trade-path path key e
confirms path key (inr (inr (inl e))) = cc (no-list path (target.Get (Book (Confirm key))) e).1
confirms path key (inr (inr (inr e))) = cc (no-list-after path (target.Get (Book (Confirm key))) e).1

lists : (path desk : List ℕ) → IsOneOf path (target.Get (Book (ListTrades desk None))) → IsName is_desk_letter 16 desk × (path ≡ codes "/lists/" ++ desk)
lists path desk (inl e) = cc (no-post path (target.Get (Book (ListTrades desk None))) e).2
lists path desk (inr (inl e)) = cc (no-trade path (target.Get (Book (ListTrades desk None))) e).1
lists path desk (inr (inr (inl e))) = list-path path desk e
lists path desk (inr (inr (inr e))) = cc (no-list-after path (target.Get (Book (ListTrades desk None))) e).1

goes-on : (path desk after : List ℕ) → IsOneOf path (target.Get (Book (ListTrades desk (Some after))))
    → IsName is_desk_letter 16 desk × IsName is_ascii_alphanumeric 20 after × (path ≡ codes "/lists/" ++ (desk ++ 47 ∷ after))
goes-on path desk after (inl e) = cc (no-post path (target.Get (Book (ListTrades desk (Some after)))) e).2
goes-on path desk after (inr (inl e)) = cc (no-trade path (target.Get (Book (ListTrades desk (Some after)))) e).1
goes-on path desk after (inr (inr (inl e))) = cc (no-list path (target.Get (Book (ListTrades desk (Some after)))) e).1
goes-on path desk after (inr (inr (inr e))) = list-after-path path desk after e

posts : (path : List ℕ) (form : Form) → IsOneOf path (target.Post form) → form_of path ≡ Some form
posts path form (inl e) = let post = no-post path (target.Post form) e in let same : post.0 ≡ form = cc post.2 in post.1 ∙ ap Some same
posts path form (inr (inl e)) = cc (no-trade path (target.Post form) e).1
posts path form (inr (inr (inl e))) = cc (no-list path (target.Post form) e).1
posts path form (inr (inr (inr e))) = cc (no-list-after path (target.Post form) e).1

pub trades-confirmed : (path : List ℕ) (key : Key) → target_of path ≡ Some (target.Get (Book (Confirm key))) → IsKey key × (path ≡ codes "/trades/" ++ (key.desk ++ 47 ∷ key.reference))
trades-confirmed path key e = confirms path key (one-of path (target.Get (Book (Confirm key))) (λ look is. cc is) e)

pub lists-given : (path desk : List ℕ) → target_of path ≡ Some (target.Get (Book (ListTrades desk None))) → IsName is_desk_letter 16 desk × (path ≡ codes "/lists/" ++ desk)
lists-given path desk e = lists path desk (one-of path (target.Get (Book (ListTrades desk None))) (λ look is. cc is) e)

pub lists-go-on : (path desk after : List ℕ) → target_of path ≡ Some (target.Get (Book (ListTrades desk (Some after))))
    → IsName is_desk_letter 16 desk × IsName is_ascii_alphanumeric 20 after × (path ≡ codes "/lists/" ++ (desk ++ 47 ∷ after))
lists-go-on path desk after e = goes-on path desk after (one-of path (target.Get (Book (ListTrades desk (Some after)))) (λ look is. cc is) e)

-- a form is found by its path
found-by : (v : Bool) (here form : Form) (rest : Option Form) (path : List ℕ) → bytes_eq path (posted_under here) ≡ v → (rest ≡ Some form → path ≡ posted_under form)
    → cond v (Some here) rest ≡ Some form → path ≡ posted_under form
found-by true here form rest path is others e =
    let same : path ≡ posted_under here = grind (arith, bytes_eq-Decides path (posted_under here), is) in
    let form : here ≡ form = cc e in
    same ∙ ap posted_under form
found-by false here form rest path is others e = others e

pub form-found : (path : List ℕ) (form : Form) (forms : List Form) → find (λ form. bytes_eq path (posted_under form)) forms ≡ Some form → path ≡ posted_under form
form-found path form [] e = cc e
form-found path form (here ∷ others) e =
    found-by (bytes_eq path (posted_under here)) here form (find (λ form. bytes_eq path (posted_under form)) others) path refl (form-found path form others) e

pub bodies-have-one-path : (path : List ℕ) (posted : Form) → target_of path ≡ Some (target.Post posted) → path ≡ posted_under posted
bodies-have-one-path path posted e = form-found path posted forms (posts path posted (one-of path (target.Post posted) (λ look is. cc is) e))

pub bodies-posted : BodiesArePosted
unfolding target_of of_book_at
bodies-posted = record { issues = refl; amendments = refl; trades = refl; corrections = refl; cancels = refl; quotes = refl; checks = refl }
