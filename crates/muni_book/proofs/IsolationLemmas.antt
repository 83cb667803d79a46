-- Tables that are alike for a desk stay so.
use Rattle.std.proofs.Common.{◌≡◌, inl, inr, Bool, true, false, cond, refl, sym, ap, subst, ◌∙◌, Option, Some, None, ℕ, List, [], ◌∷◌}
use Rattle.std.specs.Ordering.{eq_by_cmp}
use Rattle.std.specs.FinMap.{get, insert}
use Rattle.muni_msg.specs.declared.command.Command.{Command}
use Rattle.muni_msg.specs.declared.command.Reply.{Reply}
use Rattle.muni_keep.specs.History.{grown}
use Rattle.muni_keep.specs.Tables.{Tables}
use Rattle.muni_keep.specs.Trades.{by_bytes, Desks, own, put_own}
use Rattle.muni_book_step.specs.Runs.{Runs}
use Rattle.muni_book_step.specs.Step.{Rules, Entry, NewIssue, NewVersion, IsStep, IsStepOver, after, desk_of, own_of}
use Rattle.muni_book_step.specs.Reasons.{IsReasoned}
use Rattle.muni_book_step.proofs.OutcomeLemmas.{step-reason}
use Rattle.muni_book.specs.Isolation.{is_no_other, concerning, replies_to, AreAlike, DesksAreIsolated}
use Rattle.muni_book.proofs.PutLemmas.{own-put, same-name}

-- an entry is a version of the desk that is named, or an issue where none is
abbrev IsPlaced : Option (List ℕ) → Option Entry → Type 0
IsPlaced desk None = Unit {0}
IsPlaced desk (Some (NewIssue issue)) = desk ≡ None
IsPlaced desk (Some (NewVersion key version)) = desk ≡ Some key.desk

placed : (P : Rules) (t : Tables) (c : Command) (reply : Reply) (entry : Option Entry) → IsReasoned P t c reply entry → IsPlaced (desk_of c) entry
placed P t c reply None why = tt
placed P t c reply (Some (NewIssue issue)) (inl (new, told)) = ap desk_of new.command
placed P t c reply (Some (NewIssue issue)) (inr (number, amended, told)) = ap desk_of amended.command
placed P t c reply (Some (NewVersion key version)) (issue, number, told, inl cancel) = ap desk_of cancel.command
placed P t c reply (Some (NewVersion key version)) (issue, number, told, inr (inl entered, prices)) = ap desk_of entered.command
placed P t c reply (Some (NewVersion key version)) (issue, number, told, inr (inr corrected, prices)) = ap desk_of corrected.command

put-alike : {V : Type 0} (q d r : List ℕ) (v : V) (one other : Desks V) → own q one ≡ own q other → (b : Bool) → eq_by_cmp by_bytes q d ≡ b
    → cond b (put_own r v (own d one)) (own q one) ≡ cond b (put_own r v (own d other)) (own q other)
put-alike q d r v one other same true named = ap (put_own r v) (subst (λ x. own x one ≡ own x other) (same-name q d named) same)
put-alike q d r v one other same false named = same

alike-after : (desk : List ℕ) (old others : Tables) (entry : Option Entry) → AreAlike desk old others → AreAlike desk (after entry old) (after entry others)
alike-after desk old others None alike = alike
alike-after desk old others (Some (NewIssue issue)) alike = record { issues = ap (λ issues. insert issues issue.cusip (grown (get issues issue.cusip) issue)) alike.issues; trades = alike.trades }
alike-after desk old others (Some (NewVersion key version)) alike = record {
  issues = alike.issues;
  trades = own-put desk key.desk key.reference version old.desks
      ∙ put-alike desk key.desk key.reference version old.desks others.desks alike.trades (eq_by_cmp by_bytes desk key.desk) refl
      ∙ sym (own-put desk key.desk key.reference version others.desks);
}

other-after : (desk : List ℕ) (old others : Tables) (named : Option (List ℕ)) (entry : Option Entry) → IsPlaced named entry → is_no_other desk named ≡ false → AreAlike desk old others → AreAlike desk (after entry old) others
other-after desk old others named None place other alike = alike
other-after desk old others named (Some (NewIssue issue)) place other alike = absurd (let never : true ≡ false = subst (λ x. is_no_other desk x ≡ false) place other in cc)
other-after desk old others named (Some (NewVersion key version)) place other alike = record {
  issues = alike.issues;
  trades = own-put desk key.desk key.reference version old.desks
      ∙ ap (λ b. cond b (put_own key.reference version (own key.desk old.desks)) (own desk old.desks)) (subst (λ x. is_no_other desk x ≡ false) place other)
      ∙ alike.trades;
}

same-own : (desk : List ℕ) (old others : Tables) (named : Option (List ℕ)) → is_no_other desk named ≡ true → AreAlike desk old others → own_of named old ≡ own_of named others
same-own desk old others None same alike = refl
same-own desk old others (Some named) same alike = subst (λ x. own x old.desks ≡ own x others.desks) (same-name desk named same) alike.trades

same-step : (P : Rules) (desk : List ℕ) (old others : Tables) (c : Command) (reply : Reply) (entry : Option Entry) → is_no_other desk (desk_of c) ≡ true → AreAlike desk old others
    → IsStepOver P old c (record { reply = reply; entry = entry }) → IsStepOver P others c (record { reply = reply; entry = entry })
same-step P desk old others c reply entry same alike step =
    subst (λ issues. IsStep P issues (own_of (desk_of c) others) c (record { reply = reply; entry = entry })) alike.issues
    (subst (λ own. IsStep P old.issues own c (record { reply = reply; entry = entry })) (same-own desk old others (desk_of c) same alike) step)

pub desks-isolated : (P : Rules) → DesksAreIsolated P
desks-isolated P desk old others new [] [] alike run = (others, refl, subst (λ t. AreAlike desk t others) (sym run) alike)
desks-isolated P desk old others new [] (reply ∷ replies) alike run = absurd run
desks-isolated P desk old others new (c ∷ commands) [] alike run = absurd run
desks-isolated P desk old others new (c ∷ commands) (reply ∷ replies) alike run =
    let entry = run.0 in
    elim (is_no_other desk (desk_of c)) as (λ b. is_no_other desk (desk_of c) ≡ b →
    (end : Tables) × Runs P others (cond b (c ∷ concerning desk commands) (concerning desk commands)) (cond b (reply ∷ replies_to desk commands replies) (replies_to desk commands replies)) end × AreAlike desk new end) [
      | true ↦ λ same.
          let rest = desks-isolated P desk (after entry old) (after entry others) new commands replies (alike-after desk old others entry alike) run.2 in
          (rest.0, (entry, same-step P desk old others c reply entry same alike run.1, rest.1), rest.2)
      | false ↦ λ other.
          desks-isolated P desk (after entry old) others new commands replies
          (other-after desk old others (desk_of c) entry (placed P old c reply entry (step-reason P old c reply entry run.1)) other alike) run.2
    ] refl
