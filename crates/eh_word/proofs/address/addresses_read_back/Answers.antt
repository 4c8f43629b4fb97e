use Rattle.eh_word.proofs.AddressesReadBack.{reads_back}
use Rattle.eh_word.proofs.address.addresses_read_back.Goals as goal

pub returns : goal.returns
returns c = reads_back
