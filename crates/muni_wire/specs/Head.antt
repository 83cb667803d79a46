-- The head at the front of the bytes of a connection, within the limits of the desk.
use Rattle.std.specs.Prelude.{ℕ, List, ◌<◌, ◌≤◌, ◌⊎◌, length, take}
use Rattle.httparse.specs.Grammar.{RequestHead, ReadsRequest, print_request, HasNoRequest, NeverHasRequest, MayBecomeRequest}
use Rattle.httparse.specs.Spans.{RequestExceeds}

-- a head has at most so many bytes
abbrev pub head_limit : ℕ
head_limit = 16_384

-- and so many header fields
abbrev pub field_limit : ℕ
field_limit = 64

-- the bytes begin with this head, which is within the limits, and these come after it
pub record HasHead (bytes : List ℕ) (head : RequestHead) (rest : List ℕ) : Type 0 where
  pub reads : ReadsRequest bytes head rest
  pub short : length (print_request head) ≤ head_limit
  pub few : length head.fields ≤ field_limit

-- nothing that could follow the first bytes makes a head of them
abbrev pub IsNoHead : List ℕ → Type 0
IsNoHead bytes = NeverHasRequest (take head_limit bytes)

-- the bytes hold no whole head and may become one
pub record IsUnfinished (bytes : List ℕ) : Type 0 where
  pub none : HasNoRequest bytes
  pub may : MayBecomeRequest bytes

-- the first bytes are as many as a head has and unfinished, or they hold too many header fields
abbrev pub IsHeadTooLarge : List ℕ → Type 0
IsHeadTooLarge bytes =
    ((head_limit ≤ length bytes) × IsUnfinished (take head_limit bytes))
    ⊎ RequestExceeds field_limit (take head_limit bytes)

-- the bytes end within a head
abbrev pub EndsInHead : List ℕ → Type 0
EndsInHead bytes = (length bytes < head_limit) × IsUnfinished bytes
