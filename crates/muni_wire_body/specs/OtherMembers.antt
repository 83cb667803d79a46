-- The members of a body that its form reads.
use Rattle.std.specs.Prelude.{◌≡◌, ◌≢◌, ℕ, List, [], ◌∷◌, All, codes, map, Some, None}
use Rattle.serde_json.specs.Data.{Data}
use Rattle.serde_json.specs.Find.{get}
use Rattle.muni_msg.specs.Columns.{all_columns, name_of}
use Rattle.muni_wire_body.specs.Body.{data_of, request_of}
use Rattle.muni_wire_body.specs.declared.form.Form.{Form}
use Rattle.muni_wire_body.specs.declared.form.Form.TheVariants as form
use Rattle.muni_wire_body.specs.declared.form.Form.TheVariants.{Check}

-- those of the terms of an issue
abbrev pub issue_names : List (List ℕ)
issue_names =
    codes "cusip" ∷ codes "name" ∷ codes "kind" ∷ codes "dated" ∷ codes "maturity" ∷ codes "coupon"
    ∷ codes "first" ∷ codes "calls" ∷ codes "days" ∷ []

-- their names
abbrev pub member_names : Form → List (List ℕ)
member_names form.Issue = issue_names
member_names form.Amendment = codes "number" ∷ issue_names
member_names form.Trade =
    codes "cusip" ∷ codes "par" ∷ codes "settle" ∷ codes "basis" ∷ codes "value"
    ∷ codes "side" ∷ codes "fee" ∷ codes "desk" ∷ codes "reference" ∷ codes "issue" ∷ []
member_names form.Correction =
    codes "cusip" ∷ codes "par" ∷ codes "settle" ∷ codes "basis" ∷ codes "value"
    ∷ codes "side" ∷ codes "fee" ∷ codes "desk" ∷ codes "reference" ∷ codes "number" ∷ codes "issue" ∷ []
member_names form.Cancellation = codes "desk" ∷ codes "reference" ∷ codes "number" ∷ []
member_names form.Quote =
    codes "cusip" ∷ codes "par" ∷ codes "settle" ∷ codes "basis" ∷ codes "value" ∷ codes "each"
    ∷ codes "risk" ∷ []
member_names Check = codes "desk" ∷ map name_of all_columns

-- bodies of a form that is no check ask for the same if they have the same members of its names, whatever
-- other members they have
abbrev pub OtherMembersAreIgnored : Type 0
OtherMembersAreIgnored =
    (form : Form) (one other : List ℕ) (a b : Data) → form ≢ Check → data_of one ≡ Some a → data_of other ≡ Some b
    → All (λ name. get name a ≡ get name b) (member_names form)
    → request_of form one ≡ request_of form other

-- a check that has a member of another name is refused
abbrev pub ChecksHaveNoOthers : Type 0
ChecksHaveNoOthers =
    (body name : List ℕ) (value found : Data) → data_of body ≡ Some value → get name value ≡ Some found
    → All (λ known. name ≢ known) (member_names Check)
    → request_of Check body ≡ None
