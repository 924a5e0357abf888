use Rattle.parking.proofs.Whole.{all_sound, keys_sound}
use Rattle.parking.proofs.restore.input_at.Goals as goal

pub keys_at-keys-requires : goal.keys_at-keys-requires
keys_at-keys-requires c = keys_sound c.args.words.now (all_sound c.args.words.now c.requires).fixed
