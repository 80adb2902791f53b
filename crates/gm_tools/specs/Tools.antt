-- The commands of the tools, and how a call of them ends.
use Rattle.std.specs.Prelude.{◌≡◌, ◌≤◌, ℕ, ◌⊎◌, Bool, true, false, Option, Some, None}
use Rattle.gm_words.specs.Commands.{Command, run, build, info, command_of}
use Rattle.gm_commands.specs.Endings.{CommandCall, CommandContract, HasSucceeded, HasFailed, IsComplete, RefusesWords}
use Rattle.gm_tools.specs.Builds.{build_contract}
use Rattle.gm_tools.specs.Infos.{info_contract}

-- whether the words say a command that is a tool
abbrev pub is_tool : Option Command → Bool
is_tool None = false
is_tool (Some (run command)) = false
is_tool (Some (build command)) = true
is_tool (Some (info command)) = true

-- this holds of a command that is a tool, and of its contract
abbrev pub IfTool : Option Command → (Command → CommandContract → Type 0) → Type 0
IfTool None Holds = Unit {0}
IfTool (Some (run command)) Holds = Unit {0}
IfTool (Some (build command)) Holds = Holds (build command) (build_contract command)
IfTool (Some (info command)) Holds = Holds (info command) (info_contract command)

-- the statuses of the tools
abbrev pub IsToolStatus : ℕ → Type 0
IsToolStatus status =
    (status ≡ 0) ⊎ (status ≡ 2) ⊎ (status ≡ 3) ⊎ (status ≡ 4) ⊎ (status ≡ 6) ⊎ (status ≡ 7) ⊎ (status ≡ 8)

-- The promises of a call of the tools, by its status and by the command that its words say.
pub record KeepsToolPromises (call : CommandCall) : Type 0 where
  pub no_command : is_tool (command_of call.words) ≡ false → RefusesWords call
  pub output : call.status ≡ 0 → IfTool (command_of call.words) (λ command contract. HasSucceeded contract call)
  pub error_line : 3 ≤ call.status → IfTool (command_of call.words) (λ command contract. HasFailed command contract call)
  pub completeness : IfTool (command_of call.words) (λ command contract. IsComplete contract call.old call.new call.status)
  pub statuses : IsToolStatus call.status
  pub files : IfTool (command_of call.words) (λ command contract. contract.KeepsFiles call.old.depot call.new.depot)
  pub reads : IfTool (command_of call.words) (λ command contract. contract.Reads call.old.depot call.new.depot call.status)
  pub faults : call.old.depot.faults ≤ call.new.depot.faults
  pub out_faults : call.old.out.faults ≤ call.new.out.faults
  pub calm : call.new.depot.calm ≡ call.old.depot.calm
