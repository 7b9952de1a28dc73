-- What stands at a place of a script, as code says it.
use Rattle.std.specs.Prelude.{Option, Some, None, Result, Ok, Err}
use package.Rattle.replay.specs.Scripts.{Step, Malformed, Play}
use package.Rattle.replay.specs.declared.scripts.Part.{Part}
use package.Rattle.replay.specs.declared.replies.ReplayError.{ReplayError}

-- a call, if there is one
abbrev pub part_of : Option Part → Step
part_of (Some p) = Play p
part_of None = Malformed

-- the same in front of the script's end
abbrev pub step_of : Result Part ReplayError → Step
step_of (Ok p) = Play p
step_of (Err e) = Malformed
