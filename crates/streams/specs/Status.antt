-- The status of a program that a failure ended.
use Rattle.std.specs.Prelude.{ℕ}
use Rattle.std.specs.IoError.{error_kind}
use Rattle.std.specs.declared.io.ErrorKind.{ErrorKind}
use Rattle.std.specs.declared.io.ErrorKind.TheVariants.{BrokenPipe}
use Rattle.streams.specs.declared.Failure.{Failure}
use Rattle.streams.specs.declared.Failure.TheVariants.{Input, Output}

-- 141 where nobody reads the output any more, as a shell gives a program that SIGPIPE ended; else 0, and what failed is said
abbrev pub status_by : ErrorKind → ℕ
status_by BrokenPipe = 141
status_by kind = 0

abbrev pub status_of : Failure → ℕ
status_of (Input e) = 0
status_of (Output e) = status_by (error_kind e)
