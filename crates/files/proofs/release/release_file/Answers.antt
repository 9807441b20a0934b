use Rattle.files.proofs.ReleaseLaws.{file_released}
use Rattle.files.proofs.release.release_file.Goals as goal

pub returns : goal.returns
returns c = search file_released
