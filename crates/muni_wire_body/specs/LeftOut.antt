-- The members of a body that may be left out.
use Rattle.std.specs.Prelude.{◌≡◌, ◌≢◌, ◌⊎◌, ℕ, List, codes, Some, None}
use Rattle.serde_json.specs.Data.{Data, string}
use Rattle.serde_json.specs.Find.{get}
use Rattle.muni_wire_body.specs.Body.{data_of, request_of}
use Rattle.muni_wire_body.specs.declared.form.Form.{Form}
use Rattle.muni_wire_body.specs.declared.form.Form.TheVariants.{Check}

-- a value has a member with this text, which another has not, and their other members are the same
pub record HasOneMore (name text : List ℕ) (whole part : Data) : Type 0 where
  pub there : get name whole ≡ Some (string text)
  pub left_out : get name part ≡ None
  pub others : (other : List ℕ) → other ≢ name → get other part ≡ get other whole

-- so are two bodies
pub record NamesOneMore (name text : List ℕ) (whole part : List ℕ) : Type 0 where
  pub whole_data : Data
  pub part_data : Data
  pub whole_is : data_of whole ≡ Some whole_data
  pub part_is : data_of part ≡ Some part_data
  pub more : HasOneMore name text whole_data part_data

-- a basis of 30/360 or a commission of 0 may be left out of what is no check, and what is asked for stays the same
abbrev pub MayBeLeftOut : Type 0
MayBeLeftOut =
    (form : Form) (whole part : List ℕ)
    → form ≢ Check
    → NamesOneMore (codes "days") (codes "30/360") whole part
    ⊎ NamesOneMore (codes "fee") (codes "0") whole part
    → request_of form part ≡ request_of form whole
