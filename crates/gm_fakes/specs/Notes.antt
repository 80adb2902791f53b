-- What a depot has noted of its calls.
use Rattle.std.specs.Prelude.{ℕ, List, map, string_bytes}
use Rattle.gm_fakes.specs.declared.mem_depot.Call.{Call}
use Rattle.gm_fakes.specs.declared.noting_depot.NotedCall.{NotedCall}

-- the kind of each call and the bytes of its file's name, and then the place and the number of its bytes
abbrev pub noted : List NotedCall → List ((Call × List ℕ) × (ℕ × ℕ))
noted calls = map (λ call. ((call.kind, string_bytes call.name), (call.position, call.length))) calls
