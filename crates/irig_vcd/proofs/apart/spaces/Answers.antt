use Rattle.irig_vcd.proofs.DarkLanes.{low_mask}
use Rattle.irig_vcd.proofs.apart.spaces.Goals as goal

pub returns : goal.returns
returns c = low_mask c.args.bytes c.fits-bytes.0
