-- The commands as `clap` sees them, and what stands at the places of their words.
use Rattle.std.specs.Prelude.{true, if◌then◌else◌, List, [], ◌∷◌, codes, bytes_eq, Option, None, unwrap_or}
use Rattle.clap.specs.Words.{App, Row, Rule, Text, first_of, new_app, new_rule, with_rule, with_subcommand}
use Rattle.clap.specs.Simple.{new_shape}
use Rattle.gm_words.specs.Commands.{Command, run_from, build_from, info_from}

-- a word that has to come
abbrev pub required : Text → Rule
required id = record (new_rule id) { required = true }

abbrev pub run_app : App
run_app = with_rule (with_rule (with_rule (with_rule (new_app (codes "run"))
    (required (codes "GRID"))) (required (codes "JOBS"))) (required (codes "WORKERS"))) (required (codes "CHUNK"))

abbrev pub build_app : App
build_app = with_rule (with_rule (with_rule (with_rule (new_app (codes "build"))
    (required (codes "EDGES"))) (required (codes "GRID"))) (required (codes "N"))) (required (codes "PARTS"))

abbrev pub info_app : App
info_app = with_rule (with_rule (new_app (codes "info")) (required (codes "GRID"))) (required (codes "CHUNK"))

-- the program before its commands: no flag and no `help` of clap's own, and a command has to come
abbrev pub no_commands : App
no_commands = record {
  top = record (new_shape (codes "graphm")) {
    no_binary_name = true;
    disable_help_flag = true;
    disable_help_subcommand = true;
    disable_version_flag = true;
    subcommand_required = true;
  };
  subs = [];
}

unfoldable pub program : App
program = with_subcommand (with_subcommand (with_subcommand no_commands run_app.top) build_app.top) info_app.top

-- the word at this place of a command, empty where there is none
abbrev pub operand_in : List Row → Text → Text
operand_in rows id = unwrap_or (first_of id rows) []

abbrev pub run_in : List Row → Option Command
run_in rows = run_from (operand_in rows (codes "GRID") ∷ operand_in rows (codes "JOBS")
    ∷ operand_in rows (codes "WORKERS") ∷ operand_in rows (codes "CHUNK") ∷ [])

abbrev pub build_in : List Row → Option Command
build_in rows = build_from (operand_in rows (codes "EDGES") ∷ operand_in rows (codes "GRID")
    ∷ operand_in rows (codes "N") ∷ operand_in rows (codes "PARTS") ∷ [])

abbrev pub info_in : List Row → Option Command
info_in rows = info_from (operand_in rows (codes "GRID") ∷ operand_in rows (codes "CHUNK") ∷ [])

-- the command of this name, by the words at its places
abbrev pub command_in : Text → List Row → Option Command
command_in name rows =
    if bytes_eq name (codes "run") then run_in rows
    else if bytes_eq name (codes "build") then build_in rows
    else if bytes_eq name (codes "info") then info_in rows
    else None
