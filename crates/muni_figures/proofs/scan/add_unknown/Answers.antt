use Rattle.std.proofs.Common.{◌∷◌, ◌++◌, [], inl, inr, refl, sym, subst, ◌∙◌}
use Rattle.std.specs.BTreeMap as tree
use Rattle.std.specs.Prelude.{Contains, IsSome}
use Rattle.std.proofs.lemmas.List.Elements.{Contains-append_left, Contains-push}
use Rattle.std.proofs.lemmas.Option.{none-some, same_Some}
use Rattle.muni_keep.specs.Trades.{by_bytes}
use Rattle.muni_figures.specs.Rows.{row_of}
use Rattle.muni_figures.proofs.ScanLemmas.{first-named}
use Rattle.muni_figures.proofs.scan.add_unknown.Goals as goal

pub returns-in_default : goal.returns-in_default
returns-in_default c = record {
  named = first-named (tree.get by_bytes c.args.issues.now) c.args.unknown.now.items c.args.line.now (row_of c.args.line.now) refl
      (λ cusip read. absurd (none-some cusip (sym c.in_default.is ∙ c.read_named.ensures ∙ read)));
  kept = λ cusip is. is;
}

pub returns-then-contains_key : goal.returns-then-contains_key
returns-then-contains_key c = record {
  named = first-named (tree.get by_bytes c.args.issues.now) c.args.unknown.now.items c.args.line.now (row_of c.args.line.now) refl
      (λ cusip read. inl (subst (λ named. IsSome (tree.get by_bytes c.args.issues.now named))
      (same_Some c.in-Some.cusip cusip (sym c.in-Some.is ∙ c.read_named.ensures ∙ read))
      (sym c.contains_key.ensures ∙ c.if-contains_key.true)));
  kept = λ cusip is. is;
}

pub returns-in-Ok : goal.returns-in-Ok
returns-in-Ok c =
    let unknown = c.args.unknown.now.items in
    let own = c.in-Some.cusip in
    record {
      named = first-named (tree.get by_bytes c.args.issues.now) c.push.new.self.items c.args.line.now (row_of c.args.line.now) refl
          (λ cusip read. inr (subst (λ named. Contains c.push.new.self.items named)
          (same_Some own cusip (sym c.in-Some.is ∙ c.read_named.ensures ∙ read))
          (subst (λ items. Contains items own) (sym c.in-Ok.ensures.items) (Contains-push unknown own))));
      kept = λ cusip is. subst (λ items. Contains items cusip) (sym c.in-Ok.ensures.items) (Contains-append_left unknown (own ∷ []) cusip is);
    }
