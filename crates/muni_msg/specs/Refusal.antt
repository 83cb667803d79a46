-- The numbers and names of refusals.
use Rattle.std.specs.Prelude.{ℕ, ◌==◌, if◌then◌else◌, List, codes}
use Rattle.std.specs.declared.cmp.Ordering.{Ordering}
use Rattle.std.specs.declared.cmp.Ordering.TheVariants.{Less, Equal, Greater}
use Rattle.muni_msg.specs.declared.refusal.Range.{Range}
use Rattle.muni_msg.specs.declared.refusal.Range.TheVariants.{Below, Above}
use Rattle.muni_msg.specs.declared.refusal.Refusal.{Refusal}
use Rattle.muni_msg.specs.declared.refusal.Refusal.TheVariants.{UnknownIssue, UnknownTrade, Conflict, BadTerms, SettleOutside, GivenOutOfRange, YieldBelow, YieldAbove, NoTime, Undecided, Canceled, WrongNumber, VersionsFull, DeskFull, WrongBasis}

-- the side on which a figure has left its range, by how it compares with all that lies within
abbrev pub range_of : Ordering → Range
range_of Less = Below
range_of Equal = Above
range_of Greater = Above

-- each refusal has a number of its own
abbrev pub number_of : Refusal → ℕ
number_of UnknownIssue = 1
number_of UnknownTrade = 2
number_of (Conflict kept) = 3
number_of (BadTerms fault) = 4
number_of SettleOutside = 5
number_of (GivenOutOfRange range) = 6
number_of (YieldBelow date) = 7
number_of YieldAbove = 8
number_of (NoTime date) = 9
number_of (Undecided date boundary) = 10
number_of Canceled = 11
number_of (WrongNumber next) = 12
number_of VersionsFull = 13
number_of DeskFull = 14
number_of WrongBasis = 15

-- and each number from 1 to 15 a name
abbrev pub name_of : ℕ → List ℕ
name_of number =
    if number == 1 then codes "UnknownIssue"
    else (if number == 2 then codes "UnknownTrade"
    else (if number == 3 then codes "Conflict"
    else (if number == 4 then codes "BadTerms"
    else (if number == 5 then codes "SettleOutside"
    else (if number == 6 then codes "GivenOutOfRange"
    else (if number == 7 then codes "YieldBelow"
    else (if number == 8 then codes "YieldAbove"
    else (if number == 9 then codes "NoTime"
    else (if number == 10 then codes "Undecided"
    else (if number == 11 then codes "Canceled"
    else (if number == 12 then codes "WrongNumber"
    else (if number == 13 then codes "VersionsFull"
    else (if number == 14 then codes "DeskFull"
    else codes "WrongBasis")))))))))))))
