-- The eleven calls by their names (R2.3 to R2.13), in the order of the table.
use Rattle.std.specs.Prelude.{ℕ}
use Rattle.calls.specs.declared.Act.{Act}
use Rattle.calls.specs.declared.Call.{Call}

-- what is asked of client c
abbrev pub of : ℕ → Act → Call
of c act = record { client = c; act = act }

abbrev pub join : ℕ → Call
join c = of c Act.Join

abbrev pub leave : ℕ → Call
leave c = of c Act.Leave

abbrev pub lease : ℕ → ℕ → ℕ → Call
lease c k s = of c (Act.Lease k s)

abbrev pub attach : ℕ → ℕ → ℕ → Call
attach c k s = of c (Act.Attach k s)

abbrev pub release : ℕ → ℕ → Call
release c k = of c (Act.Release k)

abbrev pub step : ℕ → Call
step c = of c Act.Step

abbrev pub fail : ℕ → Call
fail c = of c Act.Fail

abbrev pub take_over : ℕ → Call
take_over c = of c Act.TakeOver

abbrev pub rescue_step : ℕ → Call
rescue_step c = of c Act.RescueStep

abbrev pub rescuer_fails : ℕ → Call
rescuer_fails c = of c Act.RescuerFails

abbrev pub look_up : ℕ → ℕ → Call
look_up c k = of c (Act.LookUp k)
