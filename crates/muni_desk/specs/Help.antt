-- The command `help`.
use Rattle.std.specs.Prelude.{ℕ, List, [], ◌∷◌, ◌++◌, codes, Option, Some, None}
use Rattle.muni_desk.specs.declared.command.DeskCommand.TheVariants.{Help}
use Rattle.muni_desk.specs.declared.command.CommandLine.{CommandLine}

-- what words ask for after the name of the command: there are none
abbrev pub help_of : List (List ℕ) → Option CommandLine
help_of [] = Some (record { command = Help; workers = 1 })
help_of (word ∷ words) = None

-- a line for each command of the finished program, with its options
abbrev pub help_text : List ℕ
help_text =
    codes "quote-one COUPON NEXT SETTLE REDEMPTION YIELD\n"
    ++ (codes "quote --kind --dated --maturity --settle --yield|--price|--rate --first --coupon --call --par --workers --days --each --risk\n"
    ++ (codes "import --store --workers --positions --desk-limit\n"
    ++ (codes "confirm --store --desk --ref|--all\n"
    ++ (codes "serve --store --port --connections --workers --desk-limit\n"
    ++ (codes "drill --count --seed --workers\n"
    ++ (codes "positions --store --desk\n"
    ++ (codes "mark --store\n"
    ++ (codes "export --store --desk --issues\n"
    ++ (codes "list --store --desk\n"
    ++ (codes "load --store --desk-limit\n"
    ++ (codes "check-store --store\n"
    ++ (codes "figures --store --workers --from --header --risk\n"
    ++ (codes "check --store --desk\n"
    ++ codes "help\n")))))))))))))
