-- Whole runs from their steps alone, with what they come to and the four laws on them.
mod CompetingRecoveries
mod EverySiteCrashes
mod TheHomeRecovers
mod TwoSessions
