use Rattle.std.proofs.Common.{refl}
use Rattle.std.specs.Path.{path_file_name, split_last_component, trim_trailing, rsplit_once}
use Rattle.irig_disk_tests.proofs.disks.write.Goals as goal

pub put_text-requires : goal.put_text-requires
unfolding path_file_name split_last_component trim_trailing rsplit_once
put_text-requires c = refl
