-- What is to be kept can be kept.
use Rattle.std.proofs.Common.{◌≡◌, inl, inr, ℕ, ◌+◌, sym, ap, ◌∙◌, subst, Option, Some, None}
use Rattle.std.specs.Prelude.{IfSome}
use Rattle.std.specs.Option.{option_map, option_map_or}
use Rattle.muni_msg.specs.declared.command.Command.{Command}
use Rattle.muni_keep.specs.History.{History, count, next_number}
use Rattle.muni_msg.specs.declared.command.Key.{Key}
use Rattle.muni_msg.specs.declared.version.Version.{Version}
use Rattle.muni_keep.specs.Tables.{Tables, trade_at, version_at}
use Rattle.muni_book_step.specs.declared.plan.Plan.{Plan}
use Rattle.muni_book_step.specs.declared.plan.Plan.TheVariants.{Answer, Quote, KeepIssue, KeepAmendment, KeepVersion, KeepPriced}
use Rattle.muni_book_step.specs.Plan.{plan_of}
use Rattle.muni_book_step.specs.Reasons.{IsLive}
use Rattle.muni_book_step.specs.Step.{CanKeep, desk_of, own_of}
use Rattle.muni_book_step.proofs.PlanLemmas.{HasReason, none-kept, reason-of}

-- the number after the last one is the next one
pub last-next : {V : Type 0} (trade : Option (History V)) (last : ℕ × V) → option_map (λ history. (count history, history.last)) trade ≡ Some last → last.0 + 1 ≡ next_number trade
last-next {V} None last none = absurd (let never : None ≡ Some last = none in cc)
last-next {V} (Some history) last is = sym (ap (λ found. option_map_or (λ (pair : ℕ × V). pair.0 + 1) found 0) is)

pub live-next : (t : Tables) (key : Key) (number : ℕ) (last : ℕ × Version) → IsLive t key number last → number ≡ next_number (trade_at t key)
live-next t key number last live = live.number_is ∙ last-next _ last live.last_is

pub new-next : (t : Tables) (key : Key) (number : ℕ) → number ≡ 1 → version_at t key 1 ≡ None → number ≡ next_number (trade_at t key)
new-next t key number one new = one ∙ sym (ap next_number (none-kept _ new))

can-keep : (limit : ℕ) (t : Tables) (c : Command) (plan : Plan) → HasReason limit t c plan → CanKeep t plan
can-keep limit t c (Answer reply) why = tt
can-keep limit t c (Quote issue asked shown) why = tt
can-keep limit t c (KeepIssue issue) why = sym (ap next_number why.is_new)
can-keep limit t c (KeepAmendment number issue) why = why.number_is ∙ last-next _ why.last why.last_is
can-keep limit t c (KeepVersion issue key number version) why = live-next t key number why.last why.is_live
can-keep limit t c (KeepPriced issue issue_number key number act terms) (inl why) = new-next t key number why.number_is why.is_new
can-keep limit t c (KeepPriced issue issue_number key number act terms) (inr why) = live-next t key number why.last why.is_live

pub ready : (limit : ℕ) (told : Option Tables) (c : Command) (plan : Plan) → IfSome told (λ t. plan ≡ plan_of limit t.issues (own_of (desk_of c) t) c) → IfSome told (λ t. CanKeep t plan)
ready limit None c plan planned = tt
ready limit (Some t) c plan planned = subst (CanKeep t) (sym planned) (can-keep limit t c _ (reason-of limit t c))
