mod Traces
mod Files
