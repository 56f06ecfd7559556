-- A record's four bytes as a call (R5.1, R5.2).
use Rattle.std.specs.Prelude.{ℕ, List, [], ◌∷◌, get_or, Option, Some, None}
use Rattle.calls.specs.declared.Call.{Call}
use Rattle.calls.specs.Named.{join, leave, lease, attach, release, step, fail, take_over, rescue_step, rescuer_fails, look_up}

-- R5.2: the calls by number, from 0
abbrev pub known : ℕ → ℕ → ℕ → List (Option Call)
known c k s =
    None
    ∷ Some (join c)
    ∷ Some (leave c)
    ∷ Some (lease c k s)
    ∷ Some (attach c k s)
    ∷ Some (release c k)
    ∷ Some (step c)
    ∷ Some (fail c)
    ∷ Some (take_over c)
    ∷ Some (rescue_step c)
    ∷ Some (rescuer_fails c)
    ∷ Some (look_up c k)
    ∷ []

-- R5.1, R5.2: what a record's four bytes ask for
unfoldable pub decoded : ℕ → ℕ → ℕ → ℕ → Option Call
decoded call c k s = get_or (known c k s) call None

-- R5.1: how many bytes a record is
abbrev pub record_size : ℕ
record_size = 4

-- R5.1: what the record that some bytes begin with asks for
abbrev pub first_asked : List ℕ → Option Call
first_asked bytes = decoded (get_or bytes 0 0) (get_or bytes 1 0) (get_or bytes 2 0) (get_or bytes 3 0)
