mod Counts
mod Filled
mod Files
mod Fronts
mod Sealing
mod Told
