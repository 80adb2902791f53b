-- Why a command ends without its whole output: its status, and its line on standard error.
use Rattle.std.specs.Prelude.{ℕ, List, ◌++◌, codes, decimal, Option, Some, None}
use Rattle.gm_outside.specs.declared.traits.Trouble.{Trouble}
use Rattle.gm_outside.specs.declared.traits.Trouble.TheVariants.{Failed, Memory}
use Rattle.gm_edges.specs.declared.edge_error.EdgeListRefusal.{EdgeListRefusal}
use Rattle.gm_edges.specs.declared.edge_error.EdgeListRefusal.TheVariants as edge_list
use Rattle.gm_grid.specs.declared.grid_error.GridError.{GridError}
use Rattle.gm_grid.specs.declared.grid_error.GridError.TheVariants as grid
use Rattle.gm_jobs.specs.declared.jobs_error.JobsRefusal.{JobsRefusal}
use Rattle.gm_jobs.specs.declared.jobs_error.JobsRefusal.TheVariants as jobs
use Rattle.gm_jobs.specs.JobsErrors.{text_of as why_text}
use Rattle.gm_commands.specs.declared.failure.Operand.{Operand}
use Rattle.gm_commands.specs.declared.failure.Operand.TheVariants.{Edges, Grid as TheGrid, Jobs}
use Rattle.gm_commands.specs.declared.failure.Refusal.{Refusal}
use Rattle.gm_commands.specs.declared.failure.Refusal.TheVariants.{Missing, Grid, EdgeList, JobText}
use Rattle.gm_commands.specs.declared.failure.Failure.{Failure}
use Rattle.gm_commands.specs.declared.failure.Failure.TheVariants.{Refused, ReadFailed, WriteFailed, OutputFailed, OutOfMemory}

abbrev pub refusal_status : Refusal → ℕ
refusal_status (Missing operand) = 3
refusal_status (Grid error) = 4
refusal_status (EdgeList refusal) = 4
refusal_status (JobText refusal) = 5

abbrev pub status_of : Failure → ℕ
status_of (Refused refusal) = refusal_status refusal
status_of (ReadFailed operand) = 6
status_of (WriteFailed operand) = 6
status_of OutputFailed = 7
status_of OutOfMemory = 8

-- what a call that gave up means: this failure where it failed
abbrev pub failed_by : Failure → Trouble → Failure
failed_by failure Failed = failure
failed_by failure Memory = OutOfMemory

-- the file that is refused
abbrev pub refused_operand : Refusal → Operand
refused_operand (Missing operand) = operand
refused_operand (Grid error) = TheGrid
refused_operand (EdgeList refusal) = Edges
refused_operand (JobText refusal) = Jobs

-- the file that the line names, if it names one
abbrev pub operand_of : Failure → Option Operand
operand_of (Refused refusal) = Some (refused_operand refusal)
operand_of (ReadFailed operand) = Some operand
operand_of (WriteFailed operand) = Some operand
operand_of OutputFailed = None
operand_of OutOfMemory = None

-- what is wrong with a grid
abbrev pub grid_error_text : GridError → List ℕ
grid_error_text grid.BadMagic = codes "bad magic"
grid_error_text (grid.BadShape n parts) = codes "bad shape n " ++ decimal n ++ codes " parts " ++ decimal parts
grid_error_text (grid.TooManyEdges edges) = codes "too many edges " ++ decimal edges
grid_error_text (grid.BadSize found expected) = codes "size " ++ decimal found ++ codes ", expected " ++ decimal expected
grid_error_text (grid.TooManyChunks chunks) = codes "too many chunks " ++ decimal chunks
grid_error_text (grid.BadEdge index) = codes "bad edge " ++ decimal index

-- a line by its number, and what is wrong with it
abbrev pub line_text : ℕ → List ℕ → List ℕ
line_text line what = codes "line " ++ decimal line ++ codes ": " ++ what

-- what is wrong with an edge list
abbrev pub edge_list_text : EdgeListRefusal → List ℕ
edge_list_text (edge_list.BadLine line) = line_text line (codes "not an edge")
edge_list_text (edge_list.NoVertex line) = line_text line (codes "no such vertex")
edge_list_text (edge_list.TooManyEdges line) = line_text line (codes "too many edges")

-- what is wrong with a job text
abbrev pub job_text_text : JobsRefusal → List ℕ
job_text_text (jobs.TooLong bytes) = codes "longer than 1048576 bytes"
job_text_text (jobs.BadLine line why) = line_text line (why_text why)
job_text_text (jobs.TooManyJobs line) = line_text line (codes "too many jobs")
job_text_text (jobs.TooManyChanges line) = line_text line (codes "too many changes")

abbrev pub refusal_text : Refusal → List ℕ
refusal_text (Missing operand) = codes "no such file"
refusal_text (Grid error) = grid_error_text error
refusal_text (EdgeList refusal) = edge_list_text refusal
refusal_text (JobText refusal) = job_text_text refusal

-- what the line says behind the names
unfoldable pub text_of : Failure → List ℕ
text_of (Refused refusal) = refusal_text refusal
text_of (ReadFailed operand) = codes "read failed"
text_of (WriteFailed operand) = codes "write failed"
text_of OutputFailed = codes "output failed"
text_of OutOfMemory = codes "out of memory"
