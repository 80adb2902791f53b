-- What follows of a grid that was opened or built, where its output is written.
use Rattle.std.proofs.Common.{◌≡◌, ℕ, List, length, Option, Some, None, Ok, Err, refl, ◌∙◌, inl, inr}
use Rattle.std.specs.Prelude.{IsSomeAnd, sum_by}
use Rattle.std.specs.FinMap.{get}
use Rattle.gm_outside.specs.declared.traits.Trouble.{Trouble}
use Rattle.gm_outside.specs.declared.traits.Trouble.TheVariants as troubles
use Rattle.gm_outside.specs.Files.{Files}
use Rattle.gm_outside.specs.Frames.{Writes}
use Rattle.gm_grid.specs.GridBytes.{edges_in}
use Rattle.gm_label.specs.Catalogues.{Catalogue}
use Rattle.gm_source.specs.Openings.{IsTold, IsCatalogueOf}
use Rattle.gm_commands.specs.declared.failure.Failure.TheVariants.{OutputFailed}
use Rattle.gm_commands.specs.Failures.{failed_by}
use Rattle.gm_words.specs.Commands.{BuildCommand, InfoCommand}
use Rattle.gm_commands.specs.Readings.{AreTaken, AsksJust, DepotServed}
use Rattle.gm_commands.specs.Endings.{Handles, Outside}
use Rattle.gm_base.specs.declared.edge.Edge.{Edge}
use Rattle.gm_tools.specs.Builds.{AreEdges, MakesGrid, build_contract, output_of}
use Rattle.gm_tools.specs.Infos.{IsOfGrid, info_contract, text_of_catalogue}

-- what a law says of files that have a catalogue
abbrev pub Counts : Catalogue → ℕ → Type 0
Counts cat size = (bytes : List ℕ) → IsCatalogueOf bytes size cat → sum_by (λ place. place.count) cat.places ≡ length (edges_in bytes)

of_found : (found : Option (List ℕ)) (size edges : ℕ) (cat : Catalogue) → edges ≡ sum_by (λ place. place.count) cat.places → Counts cat size
    → IsSomeAnd found (λ bytes. IsCatalogueOf bytes size cat) → IsSomeAnd found (λ bytes. IsCatalogueOf bytes size cat × (edges ≡ length (edges_in bytes)))
of_found None size edges cat is law told = told
of_found (Some bytes) size edges cat is law told = (told, is ∙ law bytes told)

pub of_grid : (files : Option Files) (command : InfoCommand) (edges : ℕ) (cat : Catalogue) → edges ≡ sum_by (λ place. place.count) cat.places
    → Counts cat command.chunk → IsTold files command.grid (λ bytes. IsCatalogueOf bytes command.chunk cat) → IsOfGrid command files cat edges
of_grid None command edges cat is law told = tt
of_grid (Some held) command edges cat is law told = of_found (get held command.grid) command.chunk edges cat is law told

-- the numbers were written, or a first part of them
pub informed : (command : InfoCommand) (old new : Outside) (cat : Catalogue) (edges : ℕ)
    → AreTaken (info_contract command).reading old.depot.files → IsOfGrid command old.depot.files cat edges → DepotServed old.depot new.depot → AsksJust 1 old.depot new.depot
    → Writes {T = Unit {0}} (text_of_catalogue cat edges) old.out new.out (Ok (tt {0})) → Handles (info_contract command) old new (Ok 0)
informed command old new cat edges unrefused is served asked written = record {
  taken = unrefused;
  asked = asked;
  performs = (refl, record { cat = cat; edges = edges; is = is; written = written.ok });
  served = (served, written.causes.fault.kept (λ is. cc));
  cause = tt;
  leaves = tt;
}

pub informed_partly : (command : InfoCommand) (old new : Outside) (cat : Catalogue) (edges : ℕ) (trouble : Trouble)
    → AreTaken (info_contract command).reading old.depot.files → IsOfGrid command old.depot.files cat edges → DepotServed old.depot new.depot → AsksJust 1 old.depot new.depot
    → Writes {T = Unit {0}} (text_of_catalogue cat edges) old.out new.out (Err trouble)
    → Handles (info_contract command) old new (Err (failed_by OutputFailed trouble))
informed_partly command old new cat edges troubles.Failed unrefused is served asked written = record {
  taken = tt;
  asked = tt;
  performs = tt;
  served = tt;
  cause = (written.causes.fault.failed refl, unrefused, served, asked);
  leaves = record { cat = cat; edges = edges; is = is; written = written.err };
}
informed_partly command old new cat edges troubles.Memory unrefused is served asked written = record {
  taken = tt;
  asked = tt;
  performs = tt;
  served = tt;
  cause = (inl served, written.causes.fault.kept (λ is. absurd cc));
  leaves = inr (record { cat = cat; edges = edges; is = is; written = written.err });
}

-- the grid was built, and of the output only a first part was written
pub built_partly : (command : BuildCommand) (old new : Outside) (edges : List Edge) (trouble : Trouble)
    → AreTaken (build_contract command).reading old.depot.files → AreEdges command old.depot.files edges
    → MakesGrid command old.depot new.depot edges → DepotServed old.depot new.depot → AsksJust 1 old.depot new.depot
    → Writes {T = Unit {0}} (output_of command edges) old.out new.out (Err trouble)
    → Handles (build_contract command) old new (Err (failed_by OutputFailed trouble))
built_partly command old new edges troubles.Failed taken lists built served asked written = record {
  taken = tt;
  asked = tt;
  performs = tt;
  served = tt;
  cause = (written.causes.fault.failed refl, taken, served, asked);
  leaves = record { edges = edges; lists = lists; built = built; written = written.err };
}
built_partly command old new edges troubles.Memory taken lists built served asked written = record {
  taken = tt;
  asked = tt;
  performs = tt;
  served = tt;
  cause = (inl served, written.causes.fault.kept (λ is. absurd cc));
  leaves = inr (inr (record { edges = edges; lists = lists; built = built; written = written.err }));
}
