-- Single cases of the rules, worked by computing on the definitions.
mod FiveReplicas
mod KeptCommand
mod Operations
mod Quorums
mod Recoveries
mod TwoPartitions
