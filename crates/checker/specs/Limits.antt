-- The number of request W5.
--   check_failed == answered where a check fails
use Rattle.std.specs.Prelude.{ℕ}

abbrev pub check_failed : ℕ
check_failed = 22
