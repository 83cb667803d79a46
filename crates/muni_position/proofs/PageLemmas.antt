-- Trades that were read page after page, and their holdings.
use Rattle.std.proofs.Common.{◌≡◌, ◌≤◌, ◌<◌, ℕ, suc, ◌+◌, ◌-◌, List, [], ◌∷◌, ◌++◌, length, map, take, drop, Option, Some, None, refl, sym, ap, subst, ◌∙◌, arith, append_assoc}
use Rattle.std.specs.Prelude.{T, slice_get, IfSome}
use Rattle.muni_position.specs.Holdings.{HasTooMany, HasFew}
use Rattle.std.specs.List.{filter, AllByRecursion}
use Rattle.std.specs.FinMap.{entries, is_sorted, entries_sorted}
use Rattle.std.proofs.lemmas.List.{take-append-drop, length-append, map-append}
use Rattle.muni_msg.specs.declared.command.Line.{Line}
use Rattle.muni_msg.specs.declared.version.Version.{Version}
use Rattle.muni_keep.specs.History.{History}
use Rattle.muni_keep.specs.Tables.{Tables, line, page_at}
use Rattle.muni_keep.specs.Trades.{by_bytes, own, is_past, trades_past}
use Rattle.muni_keep.proofs.EntriesLemmas.{all_pass, past_one}
use Rattle.muni_position.specs.Positions.{last_versions}
use Rattle.muni_position.specs.Holding.{nothing, plus, holding_of, IsBounded}
use Rattle.muni_position.specs.Holdings.{Holdings, kept, AreOf}
use Rattle.muni_position.proofs.BoundLemmas.{bounded-append}
use Rattle.muni_position.proofs.HoldingLemmas.{holding_of-nil, holding_of-append}

last_split : {A B : Type 0} (f : A → B) (xs : List A) (y : B) → slice_get (map f xs) (length (map f xs) - 1) ≡ Some y → (front : List A) × (e : A) × (xs ≡ front ++ e ∷ []) × (f e ≡ y)
last_split f [] y is = absurd (cc is)
last_split f (x ∷ []) y is = let same : f x ≡ y = cc is in ([], x, refl, same)
last_split f (x ∷ next ∷ xs) y is =
    let at : length (map f (x ∷ next ∷ xs)) - 1 ≡ suc (length (map f (next ∷ xs)) - 1) = omega arith in
    let rest = last_split f (next ∷ xs) y (sym (ap (slice_get (map f (x ∷ next ∷ xs))) at) ∙ is) in
    (x ∷ rest.0, rest.1, ap (λ l. x ∷ l) rest.2, rest.3)

versions_of_lines : (trades : List (List ℕ × History Version)) → map (λ line. line.version) (map line trades) ≡ map (λ trade. trade.1.last) trades
versions_of_lines [] = refl
versions_of_lines (trade ∷ trades) = ap (λ l. trade.1.last ∷ l) (versions_of_lines trades)

same_length : {A B : Type 0} (f : A → B) (xs : List A) → length (map f xs) ≡ length xs
same_length f [] = refl
same_length f (x ∷ xs) = ap suc (same_length f xs)

-- this many trades of a desk were read, up to a reference, and these are their holdings
pub record IsSummed (desk : List ℕ) (tables : Tables) (after : Option (List ℕ)) (count : ℕ) (holdings : Holdings) : Type 0 where
  pub read : List (List ℕ × History Version)
  pub all : read ++ trades_past after (own desk tables.desks) ≡ entries (own desk tables.desks)
  pub counted : length read ≡ count
  pub sums : AreOf (map (λ trade. trade.1.last) read) holdings

pub none_read : (desk : List ℕ) (tables : Tables) (holdings : Holdings) → ((cusip : List ℕ) → kept holdings cusip ≡ nothing) → IsSummed desk tables None 0 holdings
none_read desk tables holdings none = record {
  read = [];
  all = all_pass (entries (own desk tables.desks));
  counted = refl;
  sums = record { sums = λ cusip. none cusip ∙ sym (holding_of-nil cusip); bounded = tt };
}

-- one page more
pub page_read : (desk : List ℕ) (tables : Tables) (after : Option (List ℕ)) (count next : ℕ) (lines : List Line) (last : Line) (old new : Holdings)
    → IsSummed desk tables after count old → lines ≡ page_at tables desk after → slice_get lines (length lines - 1) ≡ Some last
    → ((cusip : List ℕ) → kept new cusip ≡ plus (kept old cusip) (holding_of cusip (map (λ line. line.version) lines))) → AllByRecursion IsBounded (map (λ line. line.version) lines)
    → next ≡ count + length lines → IsSummed desk tables (Some last.reference) next new
page_read desk tables after count next lines last old new summed are is_last adds bounded is =
    let trades = own desk tables.desks in
    let rest = trades_past after trades in
    let page = take 50 rest in
    let behind = drop 50 rest in
    let split = last_split line page last (subst (λ l. slice_get l (length l - 1) ≡ Some last) are is_last) in
    let e = split.1 in
    let key : e.0 ≡ last.reference = ap (λ (l : Line). l.reference) split.3 in
    let whole : page ++ behind ≡ rest = take-append-drop 50 rest in
    let cut : entries trades ≡ (summed.read ++ split.0) ++ e ∷ behind =
    sym summed.all ∙ ap (λ l. summed.read ++ l) (sym whole ∙ ap (λ l. l ++ behind) split.2 ∙ append_assoc split.0 (e ∷ []) behind)
    ∙ sym (append_assoc summed.read split.0 (e ∷ behind)) in
    let past : trades_past (Some last.reference) trades ≡ behind =
    ap (λ k. trades_past (Some k) trades) (sym key)
    ∙ ap (filter (λ trade. is_past (Some e.0) trade.0)) cut
    ∙ past_one (summed.read ++ split.0) e behind (subst (λ l. T (is_sorted by_bytes l)) cut (entries_sorted trades)) in
    let last_of = λ (trade : List ℕ × History Version). trade.1.last in
    let version = λ (line : Line). line.version in
    let versions : map version lines ≡ map last_of page = ap (map version) are ∙ versions_of_lines page in
    record {
      read = summed.read ++ page;
      all =
          ap (λ l. (summed.read ++ page) ++ l) past ∙ append_assoc summed.read page behind
          ∙ ap (λ l. summed.read ++ l) whole ∙ summed.all;
      counted = omega (arith, is, summed.counted, length-append summed.read page, same_length line page, ap length are);
      sums = record {
        sums = λ cusip.
            adds cusip
            ∙ ap (λ h. plus h (holding_of cusip (map version lines))) (summed.sums.sums cusip)
            ∙ ap (λ l. plus (holding_of cusip (map last_of summed.read)) (holding_of cusip l)) versions
            ∙ sym (holding_of-append cusip (map last_of summed.read) (map last_of page))
            ∙ ap (holding_of cusip) (sym (map-append last_of summed.read page));
        bounded = subst (AllByRecursion IsBounded) (sym (map-append last_of summed.read page))
            (bounded-append (map last_of summed.read) (map last_of page) summed.sums.bounded (subst (AllByRecursion IsBounded) versions bounded));
      };
    }

no_more : {A B : Type 0} (f : A → B) (n : ℕ) (rest : List A) → map f (take (suc n) rest) ≡ [] → rest ≡ []
no_more f n [] none = refl
no_more f n (x ∷ rest) none = absurd (cc none)

-- all pages are read
pub all_read : (desk : List ℕ) (tables : Tables) (after : Option (List ℕ)) (count : ℕ) (lines : List Line) (holdings : Holdings)
    → IsSummed desk tables after count holdings → lines ≡ page_at tables desk after → length lines ≡ 0
    → AreOf (last_versions desk tables) holdings × (length (entries (own desk tables.desks)) ≡ count)
all_read desk tables after count lines holdings summed are none =
    let trades = own desk tables.desks in
    let empty = none_left lines none in
    let ended = no_more line 49 (trades_past after trades) (sym are ∙ empty) in
    let read : summed.read ≡ entries trades = sym (append_nil summed.read) ∙ ap (λ l. summed.read ++ l) (sym ended) ∙ summed.all in
    (subst (λ l. AreOf (map (λ trade. trade.1.last) l) holdings) read summed.sums, sym (ap length read) ∙ summed.counted)
  where
    none_left : {A : Type 0} (xs : List A) → length xs ≡ 0 → xs ≡ []
    none_left [] none = refl
    none_left (x ∷ xs) none = absurd (omega arith)

    append_nil : {A : Type 0} (xs : List A) → xs ++ [] ≡ xs
    append_nil [] = refl
    append_nil (x ∷ xs) = ap (λ l. x ∷ l) (append_nil xs)

-- no more lines are read than there are trades
pub page_fits : (desk : List ℕ) (tables : Tables) (after : Option (List ℕ)) (count : ℕ) (lines : List Line) (holdings : Holdings)
    → IsSummed desk tables after count holdings → lines ≡ page_at tables desk after → count + length lines ≤ length (entries (own desk tables.desks))
page_fits desk tables after count lines holdings summed are =
    let rest = trades_past after (own desk tables.desks) in
    omega (arith, summed.counted, ap length are, same_length line (take 50 rest), ap length summed.all, length-append summed.read rest, ap length (take-append-drop 50 rest), length-append (take 50 rest) (drop 50 rest))

-- the same if tables are known
pub each : {A : Type 0} (P : A → Type 0) (told : Option A) → ((t : A) → P t) → IfSome told P
each P None all = tt
each P (Some t) all = all t

pub told_read : (desk : List ℕ) (told : Option Tables) (after : Option (List ℕ)) (count next : ℕ) (lines : List Line) (last : Line) (old new : Holdings)
    → IfSome told (λ t. IsSummed desk t after count old) → IfSome told (λ t. lines ≡ page_at t desk after) → slice_get lines (length lines - 1) ≡ Some last
    → ((cusip : List ℕ) → kept new cusip ≡ plus (kept old cusip) (holding_of cusip (map (λ line. line.version) lines))) → AllByRecursion IsBounded (map (λ line. line.version) lines)
    → next ≡ count + length lines → IfSome told (λ t. IsSummed desk t (Some last.reference) next new)
told_read desk None after count next lines last old new summed are is_last adds bounded is = tt
told_read desk (Some t) after count next lines last old new summed are is_last adds bounded is = page_read desk t after count next lines last old new summed are is_last adds bounded is

pub told_all : (desk : List ℕ) (told : Option Tables) (after : Option (List ℕ)) (count : ℕ) (lines : List Line) (holdings : Holdings)
    → IfSome told (λ t. IsSummed desk t after count holdings) → IfSome told (λ t. lines ≡ page_at t desk after) → length lines ≡ 0
    → IfSome told (λ t. AreOf (last_versions desk t) holdings)
told_all desk None after count lines holdings summed are none = tt
told_all desk (Some t) after count lines holdings summed are none = (all_read desk t after count lines holdings summed are none).0

pub told_few : (desk : List ℕ) (told : Option Tables) (after : Option (List ℕ)) (count : ℕ) (lines : List Line) (holdings : Holdings)
    → IfSome told (λ t. IsSummed desk t after count holdings) → IfSome told (λ t. lines ≡ page_at t desk after) → length lines ≡ 0 → count ≤ 100_000_000
    → IfSome told (λ t. HasFew desk t)
told_few desk None after count lines holdings summed are none few = tt
told_few desk (Some t) after count lines holdings summed are none few = let all = (all_read desk t after count lines holdings summed are none).1 in omega arith

pub told_many : (desk : List ℕ) (told : Option Tables) (after : Option (List ℕ)) (count : ℕ) (lines : List Line) (holdings : Holdings)
    → IfSome told (λ t. IsSummed desk t after count holdings) → IfSome told (λ t. lines ≡ page_at t desk after) → 100_000_000 < count + length lines
    → IfSome told (λ t. HasTooMany desk t)
told_many desk None after count lines holdings summed are many = tt
told_many desk (Some t) after count lines holdings summed are many = let fits = page_fits desk t after count lines holdings summed are in omega arith
