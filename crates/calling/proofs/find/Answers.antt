-- What was found, and what of it is not met. Assumes nothing.
use Rattle.calling.proofs.Ends.{find_is}
use Rattle.calling.proofs.find.Goals as goal

pub shape_of-array : goal.shape_of-array
shape_of-array c = c.found-r.auto.array

pub shape_of-security : goal.shape_of-security
shape_of-security c = c.found-r.auto.security

pub shape_of-reply : goal.shape_of-reply
shape_of-reply c = c.found-r.auto.reply

pub returns : goal.returns
returns c = find_is _ _ _ _ _ _ _ _ _ _ _ _ c.found-r.result c.find_judged-v.result c.station_of-station.ensures c.ended-playing.ensures _ c.account_of-account.ensures c.found-r.ensures c.find_judged-v.ensures
