-- Why a file closed (document 01, File header): the number of each closure reason in the header. Assumes nothing.
use Rattle.std.specs.Prelude.{ℕ}
use Rattle.filing.specs.declared.Reason.{Reason}
use Rattle.filing.specs.declared.Reason.TheVariants.{Normal, SizeLimit, OpenTime, MostRecords, Manual, ReleaseChange, Abnormal, FileSystem, Storage, Integrity}

abbrev pub reason_number : Reason → ℕ
reason_number Normal = 0
reason_number SizeLimit = 1
reason_number OpenTime = 2
reason_number MostRecords = 3
reason_number Manual = 4
reason_number ReleaseChange = 5
reason_number Abnormal = 128
reason_number FileSystem = 129
reason_number Storage = 130
reason_number Integrity = 131
