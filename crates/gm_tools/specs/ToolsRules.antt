-- The contracts of the tools allow that nothing is done, and of a build that no other file changes.
use Rattle.std.specs.Prelude.{◌≡◌, ℕ, ◌+◌, List, Option, Some, None, IfSome, Result, Ok, Err, refl}
use Rattle.std.specs.FinMap.{get}
use Rattle.std.proofs.Common.{inl, inr, sym, subst, arith}
use Rattle.gm_base.specs.declared.limits.TheConstants.{MAX_CHUNKS}
use Rattle.gm_outside.specs.Files.{Files}
use Rattle.gm_outside.specs.FramesRules.{only_reads-none, only_reads-more}
use Rattle.gm_outside.specs.States.{DepotState}
use Rattle.gm_words.specs.Commands.{Command, BuildCommand, InfoCommand, run, build, info}
use Rattle.gm_source.specs.Openings.{ReadsUpTo}
use Rattle.gm_source.specs.OpeningReads.{reads_to_open}
use Rattle.gm_build.specs.Blocks.{built_file}
use Rattle.gm_commands.specs.declared.failure.Failure.{Failure}
use Rattle.gm_commands.specs.declared.failure.Failure.TheVariants.{Refused, ReadFailed, WriteFailed, OutputFailed, OutOfMemory}
use Rattle.gm_commands.specs.Endings.{CommandContract, Handles, Outside, WritesNothing}
use Rattle.gm_commands.specs.EndingsRules.{AllowsNothing}
use Rattle.gm_tools.specs.EdgeReadings.{ReadsAtMostPieces, refusal_before_piece}
use Rattle.gm_tools.specs.Builds.{BuildLeaves, BuildsPartly, KeepsOthers, build_contract}
use Rattle.gm_tools.specs.Infos.{info_contract}
use Rattle.gm_tools.specs.Tools.{IfTool}

pub writes_nothing-none : (before : Outside) → WritesNothing before before
writes_nothing-none before = record { files = refl; write_faults = refl; output = refl }

few_pieces : (before : DepotState) (told : Option Files) (name : List ℕ) → IfSome told (λ held. ReadsAtMostPieces before before (get held name))
few_pieces before None name = tt
few_pieces before (Some held) name = of_file (get held name)
  where
    of_file : (found : Option (List ℕ)) → ReadsAtMostPieces before before found
    of_file None = refl
    of_file (Some text) = omega arith

few_chunks : (before : DepotState) (told : Option Files) (name : List ℕ) (size : ℕ)
    → IfSome told (λ held. ReadsUpTo (reads_to_open size (get held name)) before before)
few_chunks before None name size = tt
few_chunks before (Some held) name size = omega arith

-- nothing is refused before the first read
unrefused : (n number : ℕ) (told : Option Files) (name : List ℕ) → number ≡ 0 → IfSome told (λ held. refusal_before_piece n number (get held name) ≡ None)
unrefused n number None name is = tt
unrefused n number (Some held) name is =
    subst (λ (k : ℕ). refusal_before_piece n k (get held name) ≡ None) (sym is) (at_start (get held name))
  where
    at_start : (found : Option (List ℕ)) → refusal_before_piece n 0 found ≡ None
    at_start None = refl
    at_start (Some text) = refl

pub build-allows_nothing : (command : BuildCommand) → AllowsNothing (build_contract command)
build-allows_nothing command = record {
  leaves = λ before. inl (writes_nothing-none before);
  reads = λ before. record {
    asked = omega arith;
    asked_once = λ other. absurd (other refl);
    few = few_pieces before before.files command.edges;
    unrefused = λ number made. unrefused command.shape.n number before.files command.edges (omega arith);
  };
  keeps = λ before. record { kept = inl refl };
}

part_kept : (command : BuildCommand) (old new : Outside) → BuildsPartly command old new → KeepsOthers command.grid old.depot new.depot
part_kept command old new part = elim part.left [
  | inl same ↦ record { kept = inl same }
  | inr first ↦ record { kept = inr (first.added, first.held) }
]

-- a build changes no file but its grid, however it ends
pub build-keeps_others : (command : BuildCommand) (old new : Outside) (result : Result ℕ Failure)
    → Handles (build_contract command) old new result → KeepsOthers command.grid old.depot new.depot
build-keeps_others command old new (Ok status) handled = record { kept = inr (built_file command.shape handled.performs.1.edges, handled.performs.1.built.file) }
build-keeps_others command old new (Err failure) handled = by_failure failure handled.leaves
  where
    by_failure : (failure : Failure) → BuildLeaves command old new failure → KeepsOthers command.grid old.depot new.depot
    by_failure (Refused refusal) left = record { kept = inl left.files }
    by_failure (ReadFailed operand) left = record { kept = inl left.files }
    by_failure (WriteFailed operand) left = part_kept command old new left.1
    by_failure OutputFailed left = record { kept = inr (built_file command.shape left.edges, left.built.file) }
    by_failure OutOfMemory left = elim left [
      | inl nothing ↦ record { kept = inl nothing.files }
      | inr some ↦ elim some [
        | inl part ↦ part_kept command old new part
        | inr built ↦ record { kept = inr (built_file command.shape built.edges, built.built.file) }
      ]
    ]

pub info-allows_nothing : (command : InfoCommand) → AllowsNothing (info_contract command)
info-allows_nothing command = record {
  leaves = λ before. inl (writes_nothing-none before);
  reads = λ before. record {
    frame = record {
      questions = 0;
      few = omega arith;
      frame = only_reads-more 0 0 (2 + MAX_CHUNKS) before before (omega arith) (only_reads-none before);
    };
    asked = λ other. absurd (other refl);
    few = few_chunks before before.files command.grid command.chunk;
    exact = λ served other. absurd (other refl);
  };
  keeps = λ before. (refl, refl);
}

-- what follows of each contract that allows it holds of a tool
pub if_tool-each : (found : Option Command) (Holds : Command → CommandContract → Type 0)
    → ((command : Command) (contract : CommandContract) → AllowsNothing contract → Holds command contract) → IfTool found Holds
if_tool-each None Holds each = tt
if_tool-each (Some (run command)) Holds each = tt
if_tool-each (Some (build command)) Holds each = each (build command) (build_contract command) (build-allows_nothing command)
if_tool-each (Some (info command)) Holds each = each (info command) (info_contract command) (info-allows_nothing command)
