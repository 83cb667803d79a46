-- What an export writes.
use Rattle.std.specs.Prelude.{◌≡◌, ℕ, List}
use Rattle.muni_keep.specs.Tables.{Tables}
use Rattle.muni_desk_export.specs.Wanted.{wanted_text}
use Rattle.muni_desk_export.specs.declared.wanted.Wanted.TheVariants as wanted
use Rattle.muni_desk_export.specs.Export.{export_text}
use Rattle.muni_desk_export.specs.Part.{part_of}

-- that of everything is the text of its commands
abbrev pub ExportsAreOfCommands : Type 0
ExportsAreOfCommands = (tables : Tables) → wanted_text wanted.Everything tables ≡ export_text tables

-- and that of a desk the text of the commands of its part of the tables
abbrev pub DesksAreOfCommands : Type 0
DesksAreOfCommands =
    (tables : Tables) (desk : List ℕ)
    → wanted_text (wanted.Desk desk) tables ≡ export_text (part_of desk tables)
