use Rattle.cpl_driver.proofs.CallsFacts.{causes_of, serial_of}
use Rattle.cpl_driver.proofs.couple.couple_solo.Goals as goal

pub returns-clause-serial : goal.returns-clause-serial
returns-clause-serial g c = serial_of _ c.answer_words.ensures

pub returns-clause-causes : goal.returns-clause-causes
returns-clause-causes g c = causes_of _ c.answer_words.ensures
