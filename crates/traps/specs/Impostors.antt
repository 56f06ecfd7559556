-- The impostors of R8.2: five call functions that are not the one of the rules.
use Rattle.std.specs.Prelude.{ℕ, ◌+◌, Bool, true, false, cond, List, ◌≡◌, eqb, get_or, take}
use Rattle.numbers.specs.declared.answers.Answer.{Answer}
use Rattle.header.specs.Header.{packed, unpacked, count_in}
use Rattle.block.specs.declared.Block.{Block}
use Rattle.block.specs.declared.store.Store.{Store}
use Rattle.block.specs.Matrix.{own_era}
use Rattle.stages.specs.declared.Stage.{Stage}
use Rattle.stages.specs.declared.Outcome.{Outcome}
use Rattle.stages.specs.Stages.{went, swapped, place_of}
use Rattle.calls.specs.declared.Call.{Call}
use Rattle.calls.specs.declared.Records.{Records}
use Rattle.calls.specs.Checks.{unchanged, refused}
use Rattle.calls.specs.Calls.{client, of_client, checked_call}
use Rattle.calls.specs.Named.{join}
use Rattle.world.specs.World.{CallFunction, calling, outcome_by, fresh, run}
use Rattle.situations.specs.Situation.{calls_of}
use Rattle.situations.specs.Table.{a_worked_example}
use Rattle.traps.specs.Cases.{of_act, of_stage, of_store}

-- the statement of the public call, asked of any call function
abbrev pub Meets : CallFunction → Type 0
Meets f =
    (call : Call) (b : Block) (eras : List (List ℕ)) (given : Records) →
    f call b eras given ≡ checked_call call b eras given

-- R8.2 a: it refuses every call
abbrev pub refuses_all : CallFunction
refuses_all call b eras given = refused Answer.WrongStanding given

-- R8.2 b: it answers 0 to every call
abbrev pub accepts_all : CallFunction
accepts_all call b eras given = unchanged Answer.Accepted given

-- an outcome with another store
abbrev pub storing : Store → Outcome Records → Outcome Records
storing store o = record { answer = o.answer; next = o.next; store = store }

-- R8.2 c: it answers and hands back what the rules say, and changes no word
abbrev pub changes_no_word : CallFunction
changes_no_word call b eras given = storing Store.Nothing (checked_call call b eras given)

-- the load that swaps: the header of the won swap is written at once, and kept, so that the swap stage finds it
abbrev pub swaps_at_load : ℕ → List (List ℕ) → Records → Outcome Records → Outcome Records
swaps_at_load c eras given o =
    of_stage
    (λ op h.
    let new = swapped (client c) op h (own_era eras c) in
    of_client (went o.answer (Stage.Note op new) (Store.Header op.slot new)) given)
    o
    o.next.client.stage

-- R8.2 d: it performs the operation at its load and idles through the other stages. That it writes header, matrix, log,
-- cell and era at once no outcome can say, for an outcome has one store: the type forbids the whole of it. This one
-- writes the header at the load, and nothing at any other stage.
abbrev pub all_at_load : CallFunction
all_at_load call b eras given =
    let o = checked_call call b eras given in
    of_act
    (cond (eqb (place_of given.client.stage) 1)
    (swaps_at_load call.client eras given o)
    (storing Store.Nothing o))
    o
    (λ k. o)
    o
    call.act

-- a store whose header, where it writes one, has a count one too many
abbrev pub one_too_many : Store → Store
one_too_many store =
    of_store
    (λ s w.
    Store.Header s (packed (record { era = (unpacked w).era; count = count_in w + 1; client = (unpacked w).client })))
    (λ c standing. store)
    store
    store

-- R8.2 e: it invents a count: a won swap writes one too many
abbrev pub invents_count : CallFunction
invents_count call b eras given =
    let o = checked_call call b eras given in
    storing (one_too_many o.store) o

-- R6.A: the calls of situation A
abbrev pub worked : List Call
worked = calls_of a_worked_example.items

-- what a call function makes of the call of situation A that comes after its first n, in the world that those led to
abbrev pub made_of : CallFunction → ℕ → Outcome Records
made_of f n = outcome_by (calling f) (run fresh (take n worked)) (get_or worked n (join 0))

-- whether a store writes a header
abbrev pub writes_header : Store → Bool
writes_header store = of_store (λ s w. true) (λ c standing. false) false store
